-- What `extractMethod` makes of an image becomes the image before, once the new method is inlined.
use Rattle.std.proofs.Common.{◌≡◌, ℕ, List, [], ◌∷◌, ◌++◌, length, Option, Some, None, refl, sym, ap, ◌∙◌, subst, inr}
use Rattle.std.specs.Prelude.{Bool, true, false, not, ◌&&◌, if◌then◌else◌, nat_lt, map, filter, option_map, unwrap_or, codes, option_and_then}
use Rattle.std.specs.Bool.{beq}
use Rattle.std.specs.List.{AllByRecursion, list_any}
use Rattle.std.specs.Option.{option_map_or}
use Rattle.std.proofs.lemmas.Bool.{false≢true, lt-ltb}
use Rattle.rb_base.specs.Names.{text_eq}
use Rattle.rb_base.proofs.NamesLemmas.{text_eq-refl}
use Rattle.tree_model.specs.Tree.{TreeOf, var, send, return, trees_of, no_statements, more_statements, MethodOf}
use Rattle.tree_model.specs.Path.{nth, part_at, part_in, statement_trees, children, child, statements_replaced, method_replaced}
use Rattle.tree_model.specs.Nodes.{Placed, nodes}
use Rattle.tree_model.specs.Normal.{normal}
use Rattle.tree_model.proofs.NodesLemmas.{Contains-part_in}
use Rattle.scope_model.specs.SpecialNames.{is_pseudo_variable, control_form}
use Rattle.scope_model.specs.Control.{is_closure_at}
use Rattle.scope_model.specs.declared.local.Local.TheVariants.{Temporary}
use Rattle.scope_model.specs.Scope.{PlacedScope, method_scope, scopes_round, is_among, local_by, local_in}
use Rattle.scope_model.specs.FreeNames.{free_occurrences, free_names}
use Rattle.image_model.specs.Image.{ClassOf, EntryOf, ImageOf}
use Rattle.image_model.specs.Words.{text_words}
use Rattle.image_model.specs.Lookup.{is_method}
use Rattle.image_model.specs.Means.{MeaningOf, means, means_outside}
use Rattle.run_model.specs.Values.{Name}
use Rattle.run_model.proofs.Finite.{and-true_left, and-true_right}
use Rattle.resolved_model.specs.ResolvedImages.{plain_class, resolved_entry, resolved_image}
use Rattle.resolved_model.specs.Environments.{Declared, opened, declared_in, statements_in}
use Rattle.mapped_model.proofs.RenamedVariableLemmas.{all-at}
use Rattle.rename_model.specs.ClassRenamed.{WritingOf}
use Rattle.rename_model.specs.Conditions.{is_user_class, is_selector_fresh}
use Rattle.rename_laws.specs.BehindKernel.{AssignsNothingFixed}
use Rattle.rename_laws.proofs.Unnamed.{denied}
use Rattle.unfolded_calls.specs.Unfolding.{Context, outermost_context, IsBelow, IsTarget, UnfoldsLines, UnfoldsCode, unfolds_code, IsUnfolded}
use Rattle.unfolded_calls.specs.SendsOnly.{SendsOnly, StatementsSendOnly}
use Rattle.unfolded_calls.proofs.Running.{none-some, some-same}
use Rattle.unfolded_places.specs.Becoming.{Becomes}
use Rattle.unfolded_places.specs.Inlining.{Filling, filling}
use Rattle.unfolded_places.specs.Fillings.{MayFill}
use Rattle.unfolded_places.specs.ExtractedOnce.{one_gone, IsSentNowhereIn, call_of}
use Rattle.unfolded_places.proofs.Congruence.{ControlLaw}
use Rattle.unfolded_places.proofs.Replaced.{sends-statements, sends-children, sends-nth}
use Rattle.unfolded_places.proofs.InlinedOne.{part-again}
use Rattle.unfolded_places.proofs.Refilled.{tree-fills-with}
use Rattle.unfolded_places.proofs.SelfFilled.{themselves, tree-itself}
use Rattle.unfolded_places.proofs.StandsThere.{keeps_in}
use Rattle.unfolded_places.proofs.PassedThere.{outer-outside, IsPassing, IsNear, call-unfolds}
use Rattle.unfolded_places.proofs.MovesAlong.{Ends}
use Rattle.unfolded_places.proofs.MethodMoves.{inside as inside_of, code-moves, lines-with}
use Rattle.command_model.specs.Asked.{text_asked}
use Rattle.command_model.specs.SameMethods.{is_super_node}
use Rattle.command_model.specs.Hierarchy.{is_method_of}
use Rattle.command_model.specs.MethodEffects.{new_method}
use Rattle.command_model.specs.Parts.{Part, Expression, is_within}
use Rattle.command_model.specs.Places.{is_return, is_local, is_in_place, is_closure_in, users_method}
use Rattle.command_model.specs.PartConditions.{is_part, has_no_return, assigns_no_outer, are_temporaries_steady}
use Rattle.command_model.specs.Sequences.{single, retold}
use Rattle.command_model.specs.Extracted.{put_behind_last, free_temporaries, method_of, method_extracted}
use Rattle.command_model.specs.CodeEffects.{part_at as part_named}
use Rattle.command_model.specs.Commands.{ExtractMethod}
use Rattle.command_model.specs.Effects.{effect}
use Rattle.code_command_laws.proofs.RunConditions.{filtered-none}
use Rattle.moved_code_laws.specs.WellWritten.{IsWellWritten}
use Rattle.moved_code_laws.proofs.Saying.{said_by, within, said-within}
use Rattle.moved_code_laws.proofs.ScopesOn.{part-in-on, in-part, on_from}
use Rattle.moved_code_laws.proofs.PlainThere.{no-control}
use Rattle.moved_code_laws.proofs.NamesPlain.{unblocked, themselves-open, themselves-count, ArePassed, locals-passed, near-passed}
use Rattle.moved_code_laws.proofs.PartStands.{IsInner, tree-stands}
use Rattle.moved_code_laws.proofs.PartSteady.{within-part, closure-on, low, own-so, open-so, near-so}
use Rattle.moved_code_laws.proofs.SteadyThere.{scopes-there, keeps-open}
use Rattle.moved_code_laws.proofs.ControlStays.{control-among}
use Rattle.moved_code_laws.proofs.MethodImages.{outer_of, code_with, IsRewritten, image-back}
use Rattle.moved_code_laws.proofs.NewFound.{target as found-there}
use Rattle.moved_code_laws.proofs.InlinedHere.{not-class}
use Rattle.moved_code_laws.proofs.BodyThere.{not-fixed}
use Rattle.moved_code_laws.proofs.FreshSelector.{unsent, unsent-doits}
use Rattle.moved_code_laws.proofs.UsersThere.{UsersMethod}

-- an expression of a method of the user, that becomes a method of a fresh selector
pub record Taking (i : ImageOf Name) (c : Name) (meta : Bool) (s t : Name) (m : EntryOf Name) (path : List ℕ) (part : TreeOf Name) : Type 0 where
  pub user : is_user_class text_eq i c ≡ true
  pub found : users_method text_eq i c meta s ≡ Some m
  pub mine : UsersMethod i c meta m
  pub there : part_in m.tree.body path ≡ Some part
  pub is_part : is_part text_asked m.tree (Expression path) ≡ true
  pub no_return : has_no_return m.tree (Expression path) ≡ true
  pub fresh : is_selector_fresh text_eq i t ≡ true
  pub assigns : assigns_no_outer text_asked m.tree (Expression path) ≡ true
  pub temporaries : are_temporaries_steady text_asked m.tree (Expression path) ≡ true

-- what is sent by a part is sent by the whole
part-sends : (P : Name → Type 0) (path : List ℕ) (t u : TreeOf Name) → SendsOnly P t → part_at t path ≡ Some u → SendsOnly P u
part-sends P [] t u a e = subst (SendsOnly P) (some-same e) a
part-sends P (k ∷ ks) t u a e = by (child t k) refl e (λ c b. part-sends P ks c u b)
  where
    by : (o : Option (TreeOf Name)) → child t k ≡ o → option_and_then (λ c. part_at c ks) o ≡ Some u → ((c : TreeOf Name) → SendsOnly P c → part_at c ks ≡ Some u → SendsOnly P u) → SendsOnly P u
    by None q e ih = none-some e
    by (Some c) q e ih = ih c (sends-nth P (children t) k c (sends-children P t a) q) e

pub part-in-sends : (P : Name → Type 0) (m : MethodOf Name) (path : List ℕ) (u : TreeOf Name) → StatementsSendOnly P m.body.statements → part_in m.body path ≡ Some u → SendsOnly P u
part-in-sends P m [] u a e = none-some e
part-in-sends P m (k ∷ ks) u a e = by (nth (statement_trees m.body.statements) k) refl e
  where
    by : (o : Option (TreeOf Name)) → nth (statement_trees m.body.statements) k ≡ o → option_and_then (λ c. part_at c ks) o ≡ Some u → SendsOnly P u
    by None q e = none-some e
    by (Some c) q e = part-sends P ks c u (sends-nth P (statement_trees m.body.statements) k c (sends-statements P m.body.statements a) q) e

module _ (writing : WritingOf Name) (i : ImageOf Name) (sound : IsWellWritten i) (c : Name) (meta : Bool) (s t : Name) (m : EntryOf Name) (path : List ℕ) (part : TreeOf Name) (scene : Taking i c meta s t m path part) where
  -- the names that are passed, and the message
  abbrev round : List (PlacedScope Name)
  round = scopes_round (method_scope m.tree) path

  abbrev names : List Name
  names = filter (λ n. is_local (said_by round n)) (free_names text_eq is_pseudo_variable part)

  named : free_temporaries text_asked m.tree (Expression path) ≡ names
  named = ap (λ o. filter (λ n. is_local (local_in text_eq is_pseudo_variable m.tree path n)) (option_map_or (free_names text_eq is_pseudo_variable) o [])) scene.there

  abbrev call : TreeOf Name
  call = call_of t names

  -- the new method
  abbrev new_tree : MethodOf Name
  new_tree = record { selector = t; arguments = names; head = []; primitive = None; body = record { temporaries = []; statements = more_statements [] (return part) no_statements; tail = [] } }

  abbrev new : EntryOf Name
  new = new_method c meta m.protocol (writing.method_text new_tree) new_tree

  told : method_of text_asked t m.tree (Expression path) ≡ new_tree
  told = λ k. normal (record { selector = t; arguments = named k; head = []; primitive = None; body = record { temporaries = []; statements = option_map_or (λ u. single (return u)) (scene.there k) no_statements; tail = [] } })

  -- the other methods
  abbrev tree_after : MethodOf Name
  tree_after = method_replaced m.tree path call

  abbrev after : EntryOf Name → EntryOf Name
  after n = if is_method text_eq c meta s n && not n.kernel then retold text_eq writing n tree_after else n

  abbrev behind : EntryOf Name → Bool
  behind e = is_method_of text_eq c e && beq meta e.meta

  -- the image
  abbrev pub image_after : ImageOf Name
  image_after = record i { methods = put_behind_last behind new (map after i.methods) }

  pub effect-extracted : (from to : ℕ) (x : EntryOf Name × Part) → part_named text_asked i c meta s from to ≡ Some x → x.0 ≡ m → x.1 ≡ Expression path → effect text_asked writing (ExtractMethod c meta s from to t) i ≡ image_after
  effect-extracted from to x e p q =
      ap (λ o. unwrap_or (option_map (λ (e : EntryOf Name × Part). method_extracted text_asked writing c meta s e.0 e.1 t i) o) i) e
      ∙ (λ k. method_extracted text_asked writing c meta s (p k) (q k) t i)
      ∙ (λ k. record i { methods = put_behind_last behind (new_method c meta m.protocol (writing.method_text (told k)) (told k)) (map (λ n. if is_method text_eq c meta s n && not n.kernel then retold text_eq writing n (method_replaced m.tree path (send (var (codes "self")) t (trees_of (map (λ n. var n) (named k))))) else n) i.methods) })

  -- no method speaks of the selector
  unsent-here : IsSentNowhereIn t m
  unsent-here = unsent i t scene.fresh scene.mine.place m scene.mine.at

  -- each class at and below the method's finds the new one
  not-class-there : IsBelow (map plain_class i.classes) (codes "Class") c → ⊥
  not-class-there = not-class i sound c scene.user

  target : IsTarget (resolved_image image_after) (one_gone t) c meta t (resolved_entry image_after new)
  target = found-there writing i sound c meta s t m scene.user scene.mine scene.fresh new_tree refl (statements_replaced m.tree.body.statements path call)

  -- what the conditions say of the part
  part-fits : (not (is_return part) && (not (is_super_node (text_eq (codes "super")) part) && not (is_in_place control_form m.tree.body path))) ≡ true
  part-fits = sym (ap (λ o. option_map_or (λ u. not (is_return u) && (not (is_super_node (text_eq (codes "super")) u) && not (is_in_place control_form m.tree.body path))) o false) scene.there) ∙ scene.is_part

  rest-fits : (not (is_super_node (text_eq (codes "super")) part) && not (is_in_place control_form m.tree.body path)) ≡ true
  rest-fits = and-true_right (not (is_return part)) _ part-fits

  no-super : part ≡ var (codes "super") → ⊥
  no-super q = false≢true (sym (denied (is_super_node (text_eq (codes "super")) part) (and-true_left (not (is_super_node (text_eq (codes "super")) part)) _ rest-fits)) ∙ ap (is_super_node (text_eq (codes "super"))) q)

  not-in-place : is_in_place control_form m.tree.body path ≡ false
  not-in-place = denied (is_in_place control_form m.tree.body path) (and-true_right (not (is_super_node (text_eq (codes "super")) part)) _ rest-fits)

  fixed : AssignsNothingFixed (means text_words i m) m.tree.body
  fixed = all-at (λ (n : EntryOf Name). AssignsNothingFixed (means text_words i n) n.tree.body) i.methods scene.mine.place m sound.behind.methods scene.mine.at

  -- each node of it
  node-inner : (q : List ℕ) (u : TreeOf Name) → part_at part q ≡ Some u → IsInner (length path) (within m.tree (path ++ q)) u
  node-inner q u e = record {
    no_return =
        filtered-none (λ (x : Placed Name). is_within (Expression path) x.0) (λ (x : Placed Name). is_return x.1) (nodes m.tree.body) (path ++ q, u)
        (denied (list_any (λ (x : Placed Name). is_return x.1) (filter (λ (x : Placed Name). is_within (Expression path) x.0) (nodes m.tree.body))) scene.no_return)
        (Contains-part_in m.tree.body (path ++ q) u (part-in-on m.tree path q part u scene.there e)) (within-part path q);
    loose = λ n v r.
        let so = not-fixed (is_pseudo_variable n) (local_by text_eq (scopes_round (method_scope m.tree) (path ++ q)) n) (means_outside text_words i m.class m.meta n) (fixed (path ++ q) n v (part-in-on m.tree path q part u scene.there e ∙ ap Some r)) in
        (so.0, λ k a. so.1 k (sym (said-within m.tree (path ++ q) n) ∙ a));
    own = λ n v r k a. own-so m.tree path part scene.there (Expression path) (within-part path) refl scene.assigns q n v (e ∙ ap Some r) k (sym (said-within m.tree (path ++ q) n) ∙ a);
  }

  low-there : (n : Name) (k : ℕ) → local_by text_eq round n ≡ Temporary k → nat_lt k (length path) ≡ true
  low-there n k e = lt-ltb k (length path) (low m.tree path part scene.there n k e)

  closed : (r : List ℕ) → is_closure_in control_form m.tree.body (path ++ r) ≡ is_closure_at control_form false part r
  closed = closure-on m.tree path part scene.there not-in-place

  -- no closure assigns a temporary that is passed
  kept : (x : Name) (k : ℕ) → is_pseudo_variable x ≡ false → local_by text_eq round x ≡ Temporary k → is_among text_eq (free_occurrences text_eq is_pseudo_variable part) x ≡ true → keeps_in round x ≡ true
  kept x k p e free = keeps-open m.tree path x p round k (scopes-there m.tree path part scene.there) e (open-so m.tree path part scene.there (Expression path) (within-part path) refl scene.temporaries x k p e closed free)

  -- in a method of that class and side
  module _ (n : EntryOf Name) (class : n.class ≡ Some c) (side : n.meta ≡ meta) where
    abbrev outer_before : Name → MeaningOf Name
    outer_before x = means_outside text_words image_after (Some c) meta x

    abbrev outer_after : Name → MeaningOf Name
    outer_after x = means_outside text_words image_after n.class n.meta x

    same : (x : Name) → outer_before x ≡ outer_after x
    same x = λ k. means_outside text_words image_after (sym class k) (sym side k) x

    -- what is passed: an argument, or a temporary that no closure assigns
    passes : ArePassed outer_after round (free_occurrences text_eq is_pseudo_variable part) kept names
    passes = locals-passed outer_after round (free_occurrences text_eq is_pseudo_variable part) kept

    -- the part may stand in the new method
    abbrev z : Filling
    z = record { arguments = names; passed = themselves names; before = outer_before; after = outer_after; round = declared_in round }

    may : MayFill z true (λ x. text_eq x t) [] part
    may =
        tree-stands part round t outer_before outer_after same (length path) low-there part (length path) [] (on_from path (within m.tree)) (in-part m.tree path part scene.there) (λ q u e. node-inner q u e)
        (part-in-sends (λ x. text_eq x t ≡ false) m.tree path part unsent-here scene.there) (λ x e p k. e)

    module _ (control : ControlLaw) where
      -- the message
      abbrev passing : IsPassing control image_after (one_gone t) n c meta round t (themselves names)
      passing = record {
        message = no-control (control_form t) (var (codes "self")) (themselves names) (unblocked names);
        target = new;
        found = target;
        primitive = refl;
        temporaries = refl;
        supers = true;
        above = λ e. (refl, refl);
        actuals = passes.actuals;
        passes = passes.plain;
        count = passes.counted;
      }

      near : IsNear control image_after (one_gone t) n c meta round t (themselves names) passing part
      near = near-passed round names part (λ x k p e. near-so m.tree path part scene.there (Expression path) (within-part path) refl scene.temporaries x k p e closed)

      becomes : Becomes (filling z true (λ x. text_eq x t)) (opened names [] []) (declared_in round) part part
      becomes =
          subst (λ u. Becomes (filling z true (λ x. text_eq x t)) (opened names [] []) (declared_in round) part u) (tree-itself names [] part)
          (tree-fills-with z true (λ x. text_eq x t) (themselves-open names) (themselves-count names) [] part may)

      ends : Ends control (resolved_image image_after) (one_gone t) (outer_of image_after n) (outer-outside control image_after (one_gone t) n c meta round) (Some (c, meta)) call part refl round
      ends z h = call-unfolds control image_after (one_gone t) n c meta round t (themselves names) passing z [] h [] part part refl no-super near becomes

      abbrev inside_method : Context
      inside_method = inside_of control (resolved_image image_after) (one_gone t) (outer_of image_after n) (outer-outside control image_after (one_gone t) n c meta round) (Some (c, meta)) m.tree

      abbrev own : List Declared
      own = opened m.tree.arguments m.tree.body.temporaries []

      lines : UnfoldsLines (resolved_image image_after) (one_gone t) inside_method (statements_in (outer_of image_after n) own (statements_replaced m.tree.body.statements path call)) (statements_in (outer_of image_after n) own m.tree.body.statements)
      lines =
          subst (λ ss. UnfoldsLines (resolved_image image_after) (one_gone t) inside_method (statements_in (outer_of image_after n) own (statements_replaced m.tree.body.statements path call)) (statements_in (outer_of image_after n) own ss))
          (part-again m path part scene.there)
          (lines-with control (resolved_image image_after) (one_gone t) (outer_of image_after n) (outer-outside control image_after (one_gone t) n c meta round) (Some (c, meta)) m.tree call part part path refl scene.there (inr refl) unsent-here
          (control-among call m.tree path part scene.there not-in-place) ends)

      pub code : UnfoldsCode (resolved_image image_after) (one_gone t) (outermost_context (Some (c, meta))) (code_with (outer_of image_after n) m.tree (statements_replaced m.tree.body.statements path call)) (code_with (outer_of image_after n) m.tree m.tree.body.statements)
      code = code-moves control (resolved_image image_after) (one_gone t) (outer_of image_after n) (outer-outside control image_after (one_gone t) n c meta round) (Some (c, meta)) m.tree (statements_replaced m.tree.body.statements path call) m.tree.body.statements lines

  -- so does the image
  module _ (control : ControlLaw) (plain : m.tree.primitive ≡ None) where
    rewritten : IsRewritten writing i sound c meta s m scene.found tree_after
    rewritten = record { selector = refl; primitive = plain; no_primitive = plain; arguments = refl; temporaries = refl }

    pub image-extracted : AllByRecursion (λ (x : ClassOf Name). text_eq [] x.name ≡ false) i.classes → IsUnfolded (resolved_image image_after) (resolved_image i)
    image-extracted named =
        image-back writing i sound c meta s m scene.found tree_after rewritten t behind new (text_eq-refl t) named (unsent i t scene.fresh) (unsent-doits i t scene.fresh)
        (record { class = scene.mine.class; meta = scene.mine.side; user = not-class-there }) (unfolds_code (code m scene.mine.class scene.mine.side control))
