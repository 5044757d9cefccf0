-- What is in the way of conditions of names, classes, variables and methods has lines.
use Rattle.std.proofs.Common.{◌≡◌, ℕ, List, [], ◌∷◌, ◌++◌, Some, map}
use Rattle.std.specs.Prelude.{Bool, false, not, ◌&&◌, ◌||◌, cond, filter, slice_get}
use Rattle.std.specs.List.{list_any, flat_map}
use Rattle.std.specs.Option.{option_map_or}
use Rattle.tree_model.specs.Nodes.{Placed, nodes}
use Rattle.tree_model.specs.Path.{part_in}
use Rattle.image_model.specs.Image.{ClassOf, EntryOf, DoItOf, ImageOf}
use Rattle.image_model.specs.Words.{text_words}
use Rattle.image_model.specs.Chain.{class_named, chain}
use Rattle.image_model.specs.Lookup.{is_method, own_method, super_lookup}
use Rattle.image_model.specs.Nodes.{in_doit, Use, NodeOf, image_nodes}
use Rattle.image_model.specs.Uses.{name_used, is_sender, places, uses, is_that_class, is_variable, senders, class_uses}
use Rattle.rename_model.specs.CommandWords.{CommandWordsOf}
use Rattle.rename_model.specs.NamesThere.{is_named_by, is_named_by_class}
use Rattle.rename_model.specs.Conditions.{is_reflective, defines, is_method_below}
use Rattle.query_model.specs.Lines.{Text}
use Rattle.command_model.specs.Commands.{CommandOf, AddMethod, PushUpMethod, PushDownMethod, kind_of}
use Rattle.command_model.specs.MethodEffects.{new_method, of_class_named, method_added, method_pushed_up, method_pushed_down}
use Rattle.command_model.specs.Hierarchy.{superclass_name, is_method_of}
use Rattle.command_model.specs.ClassConditions.{is_in_method_that}
use Rattle.command_model.specs.VariableConditions.{is_looked_through}
use Rattle.command_model.specs.SameMethods.{is_super_node, is_super_sender, is_same_method}
use Rattle.command_model.specs.MethodConditions.{is_sent_nowhere, is_reached, finds_another}
use Rattle.command_model.specs.Spelled.{IsSpelled}
use Rattle.refusal_witnesses.specs.Witnesses.{AtPlace, InMethod, WitnessOf, AWhole, AClass, TwoMeanings, a_use, a_method, a_class_of, where_true, nodes_that, in_doits}
use Rattle.refusal_witnesses.specs.NameWitnesses.{reflections_in, added_by, reflections_there, reflections, namings_in, namings_in_method, namings, speakings_in, speakings, kernel_speakings}
use Rattle.refusal_witnesses.specs.ClassWitnesses.{outer_uses, looked_uses, kernel_class, kernel_parent, other_parent, own_definer, hindrances}
use Rattle.refusal_witnesses.specs.MethodWitnesses.{kernel_method, method_there, difference_at, differences, missers, supers, other_meanings, reachings, another_found, others_found, others_after}
use Rattle.refusal_witnesses.specs.Spelled.{IsSpelledMethod, IsSpelledDoIt, IsSpelledImage}
use Rattle.refusal_witnesses.proofs.Alls.{all-weaker, all-every, all-mapped, all-filtered, all-joined, all-both, all-cond, all-where, all-given, all-found}
use Rattle.refusal_witnesses.proofs.Leading.{nodes-lead}
use Rattle.refusal_witnesses.proofs.LinesThere.{HasLine, HaveLines, class-lined, whole-lined, selector-lined, meanings-lined, nodes-lined, doits-lined, doit-nodes-lined, image-lined}

module _ (i : ImageOf Text) where
  -- classes have lines
  pub classes-lined : (cs : List (ClassOf Text)) → HaveLines i (map a_class_of cs)
  classes-lined cs = all-mapped (HasLine i) a_class_of cs (all-every (λ (c : ClassOf Text). HasLine i (a_class_of c)) (λ c. class-lined i c.name) cs)

  pub naming-lined : (same : Text → Text → Bool) (n : Text) (m : EntryOf Text) → IsSpelledMethod m → HaveLines i (namings_in_method same n m)
  naming-lined same n m spells =
      all-both (HasLine i) (where_true (list_any (same n) m.tree.arguments || list_any (same n) m.tree.body.temporaries) (a_method m)) (nodes_that (λ e. is_named_by same n e.1) (InMethod m) m.tree.body)
      (all-where (HasLine i) _ (a_method m) (whole-lined i (InMethod m)))
      (nodes-lined i m (λ e. is_named_by same n e.1) spells)

  speaking-lined : (same : Text → Text → Bool) (s : Text) (m : EntryOf Text) → IsSpelledMethod m → HaveLines i (speakings_in same s m)
  speaking-lined same s m spells =
      all-both (HasLine i) (where_true (same s m.tree.selector) (a_method m)) (nodes_that (λ e. is_sender same s e.1) (InMethod m) m.tree.body)
      (all-where (HasLine i) _ (a_method m) (whole-lined i (InMethod m)))
      (nodes-lined i m (λ e. is_sender same s e.1) spells)

  reflecting-lined : (v : CommandWordsOf Text) (m : EntryOf Text) → IsSpelledMethod m → HaveLines i (reflections_in v m)
  reflecting-lined v m spells =
      all-cond (HasLine i) m.kernel [] (where_true (v.is_not_understood m.tree.selector) (a_method m) ++ nodes_that (λ e. is_reflective v e.1) (InMethod m) m.tree.body) tt
      (all-both (HasLine i) (where_true (v.is_not_understood m.tree.selector) (a_method m)) (nodes_that (λ e. is_reflective v e.1) (InMethod m) m.tree.body)
      (all-where (HasLine i) _ (a_method m) (whole-lined i (InMethod m)))
      (nodes-lined i m (λ e. is_reflective v e.1) spells))

  module _ (spelled : IsSpelledImage i) where
    -- what is told of each method has lines
    pub methods-lined : (f : EntryOf Text → List (WitnessOf Text)) → ((m : EntryOf Text) → IsSpelledMethod m → HaveLines i (f m)) → HaveLines i (flat_map f i.methods)
    methods-lined f h = all-joined (HasLine i) f i.methods (all-weaker IsSpelledMethod (λ m. HaveLines i (f m)) h i.methods spelled.methods)

    -- uses that are nodes of the image have lines
    pub uses-lined : (p : NodeOf Text → Bool) (q : Use → Bool) → HaveLines i (map a_use (filter q (places (filter p (image_nodes i)))))
    uses-lined p q =
        all-mapped (HasLine i) a_use (filter q (places (filter p (image_nodes i))))
        (all-filtered (λ (u : Use). HasLine i (a_use u)) q (places (filter p (image_nodes i)))
        (all-mapped (λ (u : Use). HasLine i (a_use u)) (λ (e : NodeOf Text). e.use_of) (filter p (image_nodes i))
        (all-filtered (λ (e : NodeOf Text). HasLine i (a_use e.use_of)) p (image_nodes i) (image-lined i spelled))))

    pub places-lined : (p : NodeOf Text → Bool) → HaveLines i (map a_use (places (filter p (image_nodes i))))
    places-lined p =
        all-mapped (HasLine i) a_use (places (filter p (image_nodes i)))
        (all-mapped (λ (u : Use). HasLine i (a_use u)) (λ (e : NodeOf Text). e.use_of) (filter p (image_nodes i))
        (all-filtered (λ (e : NodeOf Text). HasLine i (a_use e.use_of)) p (image_nodes i) (image-lined i spelled)))

    -- a method that is found by its class, side and selector is spelled
    pub own-spelled : (same : Text → Text → Bool) (c : Text) (meta : Bool) (s : Text) (m : EntryOf Text) → own_method same i.methods c meta s ≡ Some m → IsSpelledMethod m
    own-spelled same c meta s m e = all-found IsSpelledMethod (is_method same c meta s) i.methods m spelled.methods e

    -- conditions of names
    pub reflections-there-lined : (v : CommandWordsOf Text) → HaveLines i (reflections_there v i)
    reflections-there-lined v =
        all-both (HasLine i) (flat_map (reflections_in v) i.methods) (in_doits (nodes_that (λ e. is_reflective v e.1)) i)
        (methods-lined (reflections_in v) (reflecting-lined v))
        (doits-lined i spelled (nodes_that (λ e. is_reflective v e.1)) (doit-nodes-lined i spelled (λ e. is_reflective v e.1)))

    pub reflections-lined : (v : CommandWordsOf Text) (command : CommandOf Text) → IsSpelled command → HaveLines i (reflections v i command)
    reflections-lined v command told =
        all-both (HasLine i) (reflections_there v i) (flat_map (reflections_in v) (added_by command)) (reflections-there-lined v) (added command told)
      where
        added : (c : CommandOf Text) → IsSpelled c → HaveLines i (flat_map (reflections_in v) (added_by c))
        added (AddMethod c meta protocol text tree) h =
            all-both (HasLine i) (reflections_in v (new_method c meta protocol text tree)) [] (reflecting-lined v (new_method c meta protocol text tree) (λ users. h)) tt
        added c h = tt

    pub namings-lined : (same : Text → Text → Bool) (n : Text) → HaveLines i (namings same i n)
    namings-lined same n =
        all-both (HasLine i) (map a_class_of (filter (is_named_by_class same n) i.classes)) (flat_map (namings_in_method same n) i.methods ++ in_doits (namings_in same n []) i)
        (classes-lined (filter (is_named_by_class same n) i.classes))
        (all-both (HasLine i) (flat_map (namings_in_method same n) i.methods) (in_doits (namings_in same n []) i)
        (methods-lined (namings_in_method same n) (naming-lined same n))
        (doits-lined i spelled (namings_in same n []) in-doit))
      where
        in-doit : (k : ℕ) (d : DoItOf Text) → slice_get i.doits k ≡ Some d → IsSpelledDoIt d → HaveLines i (namings_in same n [] (AtPlace (in_doit k)) d.body)
        in-doit k d there spells =
            all-both (HasLine i) (where_true (list_any (same n) [] || list_any (same n) d.body.temporaries) (AWhole (AtPlace (in_doit k)))) (nodes_that (λ e. is_named_by same n e.1) (AtPlace (in_doit k)) d.body)
            (all-where (HasLine i) _ (AWhole (AtPlace (in_doit k))) (whole-lined i (AtPlace (in_doit k))))
            (doit-nodes-lined i spelled (λ e. is_named_by same n e.1) k d there spells)

    pub speakings-lined : (same : Text → Text → Bool) (s : Text) → HaveLines i (speakings same i s)
    speakings-lined same s =
        all-both (HasLine i) (flat_map (speakings_in same s) i.methods) (in_doits (nodes_that (λ e. is_sender same s e.1)) i)
        (methods-lined (speakings_in same s) (speaking-lined same s))
        (doits-lined i spelled (nodes_that (λ e. is_sender same s e.1)) (doit-nodes-lined i spelled (λ e. is_sender same s e.1)))

    pub kernel-speakings-lined : (same : Text → Text → Bool) (v : CommandWordsOf Text) (s : Text) → HaveLines i (kernel_speakings same v i s)
    kernel-speakings-lined same v s =
        all-both (HasLine i) (flat_map (λ (m : EntryOf Text). cond m.kernel (speakings_in same s m) []) i.methods) (where_true (v.has_own_meaning s) _)
        (methods-lined (λ m. cond m.kernel (speakings_in same s m) []) (λ m spells. all-cond (HasLine i) m.kernel (speakings_in same s m) [] (speaking-lined same s m spells) tt))
        (all-where (HasLine i) (v.has_own_meaning s) _ (selector-lined i s))

    -- conditions of classes and variables
    pub kernel-class-lined : (same : Text → Text → Bool) (c : Text) → HaveLines i (kernel_class same i c)
    kernel-class-lined same c = all-given (HasLine i) (λ (e : ClassOf Text). where_true e.kernel (a_class_of e)) (class_named same i.classes c) [] (λ e f. all-where (HasLine i) e.kernel (a_class_of e) (class-lined i e.name)) tt

    pub kernel-parent-lined : (same : Text → Text → Bool) (c : Text) → HaveLines i (kernel_parent same i c)
    kernel-parent-lined same c = all-given (HasLine i) (kernel_class same i) (superclass_name same i c) [] (λ p e. kernel-class-lined same p) tt

    pub other-parent-lined : (same : Text → Text → Bool) (d c : Text) → HaveLines i (other_parent same i d c)
    other-parent-lined same d c = all-given (HasLine i) _ (class_named same i.classes d) [] (λ e f. all-where (HasLine i) _ (AClass _) (class-lined i _)) tt

    pub own-definer-lined : (same : Text → Text → Bool) (c x : Text) → HaveLines i (own_definer same i c x)
    own-definer-lined same c x = all-given (HasLine i) _ (class_named same i.classes c) [] (λ e f. all-where (HasLine i) (defines same x e) (a_class_of e) (class-lined i e.name)) tt

    pub hindrances-lined : (same : Text → Text → Bool) (excepted : List Text) (c x : Text) → HaveLines i (hindrances same i excepted c x)
    hindrances-lined same excepted c x =
        all-both (HasLine i) (map a_class_of (filter (defines same x) (chain same i.classes (Some c)))) _
        (classes-lined (filter (defines same x) (chain same i.classes (Some c))))
        (all-both (HasLine i) (map a_class_of (filter _ i.classes)) _
        (classes-lined (filter _ i.classes))
        (methods-lined (λ m. cond (is_method_below same i.classes c m && not (list_any (λ d. is_method_below same i.classes d m) excepted)) (namings_in_method same x m) [])
        (λ m spells. all-cond (HasLine i) (is_method_below same i.classes c m && not (list_any (λ d. is_method_below same i.classes d m) excepted)) (namings_in_method same x m) [] (naming-lined same x m spells) tt)))

    pub outer-uses-lined : (c : Text) → HaveLines i (outer_uses text_words i c)
    outer-uses-lined c = uses-lined (uses text_words i (λ m meaning. is_that_class text_words.tests.same c meaning)) (λ (u : Use). not (is_in_method_that (is_method_of text_words.tests.same c) i u.place))

    pub looked-uses-lined : (command : CommandOf Text) (c x : Text) → HaveLines i (looked_uses text_words i command c x)
    looked-uses-lined command c x =
        uses-lined (uses text_words i (λ m meaning. text_words.tests.same x m && is_variable text_words.tests.same (kind_of command) c meaning))
        (λ (u : Use). is_in_method_that (is_looked_through text_words.tests.same i.classes command c) i u.place)

    -- conditions of methods
    pub kernel-method-lined : (same : Text → Text → Bool) (c : Text) (meta : Bool) (s : Text) → HaveLines i (kernel_method same i c meta s)
    kernel-method-lined same c meta s = all-given (HasLine i) _ (own_method same i.methods c meta s) [] (λ m e. all-where (HasLine i) m.kernel (a_method m) (whole-lined i (InMethod m))) tt

    pub method-there-lined : (same : Text → Text → Bool) (c : Text) (meta : Bool) (s : Text) → HaveLines i (method_there same i c meta s)
    method-there-lined same c meta s = all-given (HasLine i) _ (own_method same i.methods c meta s) [] (λ m e. (whole-lined i (InMethod m), tt)) tt

    pub missers-lined : (is_super : Text → Bool) (c : Text) (meta : Bool) (s : Text) → HaveLines i (missers text_words is_super i c meta s)
    missers-lined is_super c meta s =
        all-given (HasLine i) _ (own_method text_words.tests.same i.methods c meta s) []
        (λ m e. all-cond (HasLine i) (option_map_or (is_same_method text_words is_super i i m) (super_lookup text_words i (Some c) meta s) false) [] (map a_use (senders text_words i s)) tt
        (places-lined (λ (n : NodeOf Text). is_sender text_words.tests.same s n.tree))) tt

    pub supers-lined : (is_super : Text → Bool) (c : Text) (meta : Bool) (s : Text) → HaveLines i (supers text_words is_super i c meta s)
    supers-lined is_super c meta s =
        all-given (HasLine i) _ (own_method text_words.tests.same i.methods c meta s) []
        (λ m e. nodes-lined i m (λ n. is_super_node is_super n.1) (own-spelled text_words.tests.same c meta s m e)) tt

    differences-lined : (m : EntryOf Text) (j : ImageOf Text) (n : EntryOf Text) → IsSpelledMethod m → HaveLines i (differences text_words i m j n)
    differences-lined m j n spells =
        all-joined (HasLine i) (difference_at text_words i m j n) (nodes m.tree.body)
        (all-weaker (λ (e : Placed Text). part_in m.tree.body e.0 ≡ Some e.1) (λ e. HaveLines i (difference_at text_words i m j n e))
        (λ e at. all-given (HasLine i) _ (name_used e.1) [] (λ x f. all-where (HasLine i) _ (TwoMeanings (InMethod m) e.0 x _ _) (meanings-lined i m e.0 e.1 x _ _ spells at)) tt)
        (nodes m.tree.body) (nodes-lead m.tree.body))

    pub other-meanings-lined : (is_super : Text → Bool) (c : Text) (meta : Bool) (s d : Text) → HaveLines i (other_meanings text_words is_super i c meta s d)
    other-meanings-lined is_super c meta s d =
        all-given (HasLine i) _ (own_method text_words.tests.same i.methods c meta s) []
        (λ m e. differences-lined m i (of_class_named m d) (own-spelled text_words.tests.same c meta s m e)) tt

    reachings-lined : (is_super : Text → Bool) (c s : Text) → HaveLines i (reachings text_words is_super i c s)
    reachings-lined is_super c s =
        all-both (HasLine i) (map a_use (class_uses text_words i c)) _
        (places-lined (uses text_words i (λ m meaning. is_that_class text_words.tests.same c meaning)))
        (methods-lined _ (λ m spells. all-cond (HasLine i) (option_map_or (λ d. option_map_or (text_words.tests.same c) (superclass_name text_words.tests.same i d) false) m.class false) (nodes_that (λ e. is_super_sender is_super text_words.tests.same s e.1) (InMethod m) m.tree.body) []
        (nodes-lined i m (λ e. is_super_sender is_super text_words.tests.same s e.1) spells) tt))

    others-found-lined : (is_super : Text → Bool) (j : ImageOf Text) (meta : Bool) (s : Text) → HaveLines i (others_found text_words is_super i j meta s)
    others-found-lined is_super j meta s =
        all-cond (HasLine i) (is_sent_nowhere text_words i s) [] (flat_map (another_found text_words is_super i j meta s) i.classes) tt
        (all-joined (HasLine i) (another_found text_words is_super i j meta s) i.classes
        (all-every (λ e. HaveLines i (another_found text_words is_super i j meta s e))
        (λ e. all-cond (HasLine i) (finds_another text_words is_super i j e.name meta s && is_reached text_words is_super i e.name s) (a_class_of e ∷ reachings text_words is_super i e.name s) []
        (class-lined i e.name, reachings-lined is_super e.name s) tt) i.classes))

    pub others-after-lined : (is_super : Text → Bool) (command : CommandOf Text) (s : Text) → HaveLines i (others_after text_words is_super i command s)
    others-after-lined is_super (AddMethod c meta protocol text tree) s = others-found-lined is_super (method_added c meta protocol text tree i) meta s
    others-after-lined is_super (PushUpMethod c meta t) s = others-found-lined is_super (method_pushed_up text_words.tests.same c meta t i) meta s
    others-after-lined is_super (PushDownMethod c meta t) s = others-found-lined is_super (method_pushed_down text_words.tests.same c meta t i) meta s
    others-after-lined is_super command s = tt
