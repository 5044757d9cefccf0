-- Images in one method of which other statements stand, with a new method that nothing else sends, or without one.
use Rattle.std.proofs.Common.{◌≡◌, ℕ, List, [], ◌∷◌, length, map, Option, Some, None, refl, sym, ap, ◌∙◌, subst}
use Rattle.std.specs.Prelude.{Bool, true, false, not, ◌&&◌, if◌then◌else◌}
use Rattle.std.specs.List.{AllByRecursion, list_any}
use Rattle.rb_base.specs.Names.{text_eq}
use Rattle.tree_model.specs.Tree.{StatementsOf, no_statements, more_statements, MethodOf}
use Rattle.tree_model.specs.Normal.{without_leading_of, normal, normal_by}
use Rattle.tree_model.specs.Bare.{bare_method}
use Rattle.tree_model.proofs.NormalLemmas.{bare_method-normal}
use Rattle.same_trees.specs.SameTrees.{same_code}
use Rattle.image_model.specs.Image.{ClassOf, EntryOf, DoItOf, ImageOf}
use Rattle.image_model.specs.Words.{text_words}
use Rattle.image_model.specs.Lookup.{is_method}
use Rattle.image_model.specs.Means.{MeaningOf, means_outside}
use Rattle.run_model.specs.Values.{Name}
use Rattle.run_model.proofs.Finite.{by_cases, and-true_left}
use Rattle.resolved_model.specs.Resolving.{resolved_method, resolved_doit}
use Rattle.resolved_model.specs.ResolvedTrees.{ResolvedStatements, ResolvedCode}
use Rattle.resolved_model.specs.ResolvedImages.{ResolvedImage, by_code, doing_of, resolved_entry, resolved_image}
use Rattle.resolved_model.specs.Environments.{Declared, opened, statements_in, code_in}
use Rattle.resolved_model.proofs.ResolvingLemmas.{method-resolved, doit-resolved}
use Rattle.mapped_model.proofs.RenamedVariableLemmas.{at-all}
use Rattle.rename_model.specs.ClassRenamed.{WritingOf}
use Rattle.rename_laws.proofs.OwnMethods.{found-one}
use Rattle.unfolded_calls.specs.Unfolding.{Allowed, Mode, staying, scoped, outermost_context, UnfoldsOwn, UnfoldsDoing, same_primitive, unfolds_code, unfolds_own, IsOpen, UnfoldsMethod, UnfoldsMethods, no_methods, kept, missing, UnfoldsDoIts, no_doits, next_doit, IsUnfolded}
use Rattle.unfolded_calls.specs.SendsOnly.{StatementsSendOnly}
use Rattle.unfolded_calls.proofs.Itself.{all-statements, method-same, doit-same, named-so}
use Rattle.unfolded_places.specs.InlinedOnce.{none_gone}
use Rattle.unfolded_places.specs.ExtractedOnce.{one_gone, IsSentNowhereIn}
use Rattle.command_model.specs.Places.{users_method}
use Rattle.command_model.specs.Sequences.{retold}
use Rattle.command_model.specs.Extracted.{put_behind_last}
use Rattle.command_model.proofs.UsersMethods.{users-own}
use Rattle.moved_code_laws.specs.WellWritten.{IsWellWritten}

-- comments in normal form make no difference once names are resolved
pub lines-normal : (f : Name → MeaningOf Name) (A : List Declared) (names : List Name) (m : MethodOf Name) → statements_in f A (normal_by names m).body.statements ≡ statements_in f A m.body.statements
lines-normal f A (n ∷ ns) m = refl
lines-normal f A [] m = by m.body.statements
  where
    by : (ss : StatementsOf Name) → statements_in f A (without_leading_of m.body.temporaries ss m.body.tail).statements ≡ statements_in f A ss
    by no_statements = refl
    by (more_statements c t ss) = refl

-- the code of a method with other statements
abbrev pub code_with : (Name → MeaningOf Name) → MethodOf Name → StatementsOf Name → ResolvedCode
code_with f t ss = record { parameters = length t.arguments; temporaries = length t.body.temporaries; statements = statements_in f (opened t.arguments t.body.temporaries []) ss }

-- so is that of its normal form, where only statements and comments were changed
pub code-normal : (f : Name → MeaningOf Name) (m tree : MethodOf Name) → tree.arguments ≡ m.arguments → tree.body.temporaries ≡ m.body.temporaries → code_in f [] (normal tree).arguments (normal tree).body ≡ code_with f m tree.body.statements
code-normal f m tree p q =
    (λ z. record { parameters = length (arguments z); temporaries = length (temporaries z); statements = statements_in f (opened (arguments z) (temporaries z) []) (normal tree).body.statements })
    ∙ ap (λ ss. record { parameters = length m.arguments; temporaries = length m.body.temporaries; statements = ss }) (lines-normal f (opened m.arguments m.body.temporaries []) tree.body.temporaries tree)
  where
    arguments : (normal tree).arguments ≡ m.arguments
    arguments = ap (λ (t : MethodOf Name). t.arguments) (bare_method-normal tree) ∙ p

    temporaries : (normal tree).body.temporaries ≡ m.body.temporaries
    temporaries = ap (λ (t : MethodOf Name). t.body.temporaries) (bare_method-normal tree) ∙ q

-- a method of so many temporaries, none of which is dropped
pub own-doing : (i : ResolvedImage) (gone : Allowed) (place : Option (Name × Bool)) (p n : ℕ) (ms : List Mode) (ss ss' : ResolvedStatements) → length ms ≡ n → staying ms ≡ n → UnfoldsOwn i gone (scoped p ms (outermost_context place)) ss ss' →
    UnfoldsDoing i gone place (by_code (record { parameters = p; temporaries = n; statements = ss })) (by_code (record { parameters = p; temporaries = n; statements = ss' }))
own-doing i gone place p n ms ss ss' counted stay h =
    subst (λ k. UnfoldsDoing i gone place (by_code (record { parameters = p; temporaries = n; statements = ss })) (by_code (record { parameters = p; temporaries = k; statements = ss' }))) stay
    (subst (λ k. UnfoldsDoing i gone place (by_code (record { parameters = p; temporaries = k; statements = ss })) (by_code (record { parameters = p; temporaries = staying ms; statements = ss' }))) counted (unfolds_own p ms h))

-- what names mean outside a method
abbrev pub outer_of : ImageOf Name → EntryOf Name → Name → MeaningOf Name
outer_of i m n = means_outside text_words i m.class m.meta n

-- methods and do-its in which nothing changes
module _ (i j : ImageOf Name) (classes : i.classes ≡ j.classes) (gone : Allowed) where
  method-resolved-same : (n : EntryOf Name) → resolved_method i n ≡ resolved_method j n
  method-resolved-same n = method-resolved i n ∙ (λ k. code_in (λ x. means_outside text_words (record i { classes = classes k }) n.class n.meta x) [] n.tree.arguments n.tree.body) ∙ sym (method-resolved j n)

  method-stays : (n : EntryOf Name) → StatementsSendOnly (λ s. gone.is_gone s ≡ false) n.tree.body.statements → UnfoldsMethod (resolved_image i) gone (resolved_entry i n) (resolved_entry j n)
  method-stays n sends = record { class = refl; meta = refl; selector = refl; place = None; opens = tt; doing = by n.tree.primitive }
    where
      by : (p : Option ℕ) → UnfoldsDoing (resolved_image i) gone None (doing_of i n p) (doing_of j n p)
      by (Some q) = same_primitive q
      by None = unfolds_code (subst (λ x. Rattle.unfolded_calls.specs.Unfolding.UnfoldsCode (resolved_image i) gone (outermost_context None) (resolved_method i n) x) (method-resolved-same n) (method-same i gone n sends))

  doits-stay : (ds : List (DoItOf Name)) → AllByRecursion (λ (d : DoItOf Name). StatementsSendOnly (λ s. gone.is_gone s ≡ false) d.body.statements) ds → UnfoldsDoIts (resolved_image i) gone (map (resolved_doit i) ds) (map (resolved_doit j) ds)
  doits-stay [] a = no_doits
  doits-stay (d ∷ ds) a =
      next_doit
      (subst (λ x. Rattle.unfolded_calls.specs.Unfolding.UnfoldsCode (resolved_image i) gone (outermost_context None) (resolved_doit i d) x) same (doit-same i gone d a.0))
      (doits-stay ds a.1)
    where
      same : resolved_doit i d ≡ resolved_doit j d
      same = doit-resolved i d ∙ (λ k. code_in (λ n. means_outside text_words (record i { classes = classes k }) (Rattle.run_model.specs.Runs.doit_class (record i { classes = classes k })) false n) [] [] d.body) ∙ sym (doit-resolved j d)

-- the changed method, before and after
module _ (i j : ImageOf Name) (gone : Allowed) (f : EntryOf Name → EntryOf Name) where
  methods-onward : (ms : List (EntryOf Name)) → AllByRecursion (λ n. UnfoldsMethod (resolved_image i) gone (resolved_entry i n) (resolved_entry j (f n))) ms → UnfoldsMethods (resolved_image i) gone (map (resolved_entry i) ms) (map (resolved_entry j) (map f ms))
  methods-onward [] a = no_methods
  methods-onward (n ∷ ms) a = kept a.0 (methods-onward ms a.1)

  methods-back : (ms : List (EntryOf Name)) → AllByRecursion (λ n. UnfoldsMethod (resolved_image j) gone (resolved_entry j (f n)) (resolved_entry i n)) ms → UnfoldsMethods (resolved_image j) gone (map (resolved_entry j) (map f ms)) (map (resolved_entry i) ms)
  methods-back [] a = no_methods
  methods-back (n ∷ ms) a = kept a.0 (methods-back ms a.1)

-- a method that is gone stands behind one that unfolds to another
module _ (i j : ImageOf Name) (gone : Allowed) (passes : EntryOf Name → Bool) (x : EntryOf Name) (is_gone : gone.is_gone x.tree.selector ≡ true) where
  put-missing : (xs : List (EntryOf Name)) (f : EntryOf Name → EntryOf Name) → AllByRecursion (λ n. UnfoldsMethod (resolved_image j) gone (resolved_entry j (f n)) (resolved_entry i n)) xs → UnfoldsMethods (resolved_image j) gone (map (resolved_entry j) (put_behind_last passes x (map f xs))) (map (resolved_entry i) xs)
  put-missing [] f a = no_methods
  put-missing (n ∷ xs) f a = by (passes (f n) && not (list_any passes (map f xs))) (put-missing xs f a.1)
    where
      by : (b : Bool) → UnfoldsMethods (resolved_image j) gone (map (resolved_entry j) (put_behind_last passes x (map f xs))) (map (resolved_entry i) xs) →
          UnfoldsMethods (resolved_image j) gone (map (resolved_entry j) (if b then f n ∷ x ∷ map f xs else f n ∷ put_behind_last passes x (map f xs))) (map (resolved_entry i) (n ∷ xs))
      by true ih = kept a.0 (missing is_gone (methods-back i j gone f xs a.1))
      by false ih = kept a.0 ih

-- the one method of the user with a class, a side and a selector is another one; each other one stays
module _ (writing : WritingOf Name) (i : ImageOf Name) (sound : IsWellWritten i) (c : Name) (meta : Bool) (s : Name) (m : EntryOf Name) (found : users_method text_eq i c meta s ≡ Some m) (tree : MethodOf Name) where
  abbrev pub changed : EntryOf Name → EntryOf Name
  changed n = if is_method text_eq c meta s n && not n.kernel then retold text_eq writing n tree else n

  abbrev pub anew : EntryOf Name
  anew = record m { tree = normal tree; source = writing.method_text (normal tree) }

  each-changed : (P : EntryOf Name → EntryOf Name → Type 0) → ((k : ℕ) (n : EntryOf Name) → Rattle.std.specs.Prelude.slice_get i.methods k ≡ Some n → P n n) → P m anew → AllByRecursion (λ n. P n (changed n)) i.methods
  each-changed P stays there =
      at-all _ i.methods
      (λ k n at. by_cases (is_method text_eq c meta s n && not n.kernel)
      (λ h. subst (λ b. P n (if b then retold text_eq writing n tree else n)) (sym h)
      (subst (λ x. P x (retold text_eq writing x tree)) (found-one c meta s i.methods sound.once k n at (and-true_left (is_method text_eq c meta s n) (not n.kernel) h) m (users-own text_eq i c meta s m found)) (told k n at h)))
      (λ f. subst (λ b. P n (if b then retold text_eq writing n tree else n)) (sym f) (stays k n at)))
    where
      told : (k : ℕ) (n : EntryOf Name) → Rattle.std.specs.Prelude.slice_get i.methods k ≡ Some n → (is_method text_eq c meta s n && not n.kernel) ≡ true → P m (retold text_eq writing m tree)
      told k n at h =
          by_cases (same_code text_eq m.tree (normal tree))
          (λ q. subst (λ b. P m (if b then m else anew)) (sym q) (stays k m (at ∙ ap Some (sym (found-one c meta s i.methods sound.once k n at (and-true_left (is_method text_eq c meta s n) (not n.kernel) h) m (users-own text_eq i c meta s m found))))))
          (λ q. subst (λ b. P m (if b then m else anew)) (sym q) there)

  -- The same class and side, primitive, arguments and temporaries; only statements and comments are others.
  pub record IsRewritten : Type 0 where
    pub selector : tree.selector ≡ m.tree.selector
    pub primitive : tree.primitive ≡ None
    pub no_primitive : m.tree.primitive ≡ None
    pub arguments : tree.arguments ≡ m.tree.arguments
    pub temporaries : tree.body.temporaries ≡ m.tree.body.temporaries

  module _ (j : ImageOf Name) (classes : i.classes ≡ j.classes) (h : IsRewritten) where
    bare : bare_method (normal tree) ≡ bare_method tree
    bare = bare_method-normal tree

    doing-before : doing_of i m m.tree.primitive ≡ by_code (code_with (outer_of i m) m.tree m.tree.body.statements)
    doing-before = ap (doing_of i m) h.no_primitive ∙ ap by_code (method-resolved i m)

    doing-anew : doing_of j anew (normal tree).primitive ≡ by_code (code_with (outer_of i m) m.tree tree.body.statements)
    doing-anew =
        ap (doing_of j anew) (ap (λ (t : MethodOf Name). t.primitive) bare ∙ h.primitive)
        ∙ ap by_code (method-resolved j anew
        ∙ (λ k. code_in (λ x. means_outside text_words (record i { classes = sym classes k }) m.class m.meta x) [] (normal tree).arguments (normal tree).body)
        ∙ code-normal (outer_of i m) m.tree tree h.arguments h.temporaries)

    selector-anew : (normal tree).selector ≡ m.tree.selector
    selector-anew = ap (λ (t : MethodOf Name). t.selector) bare ∙ h.selector

  -- the image with that method unfolds, where nothing is gone
  module _ (h : IsRewritten) (opens : IsOpen (resolved_image i) none_gone (resolved_entry i m) (c, meta)) where
    abbrev pub image_with : ImageOf Name
    image_with = record i { methods = map changed i.methods }

    pub image-onward : AllByRecursion (λ (x : ClassOf Name). text_eq [] x.name ≡ false) i.classes →
        UnfoldsDoing (resolved_image i) none_gone (Some (c, meta)) (by_code (code_with (outer_of i m) m.tree m.tree.body.statements)) (by_code (code_with (outer_of i m) m.tree tree.body.statements)) → IsUnfolded (resolved_image i) (resolved_image image_with)
    image-onward named u = record {
      gone = none_gone;
      classes = refl;
      named = named-so i i.classes named;
      methods =
          methods-onward i image_with none_gone changed i.methods
          (each-changed (λ x y. UnfoldsMethod (resolved_image i) none_gone (resolved_entry i x) (resolved_entry image_with y)) (λ k n at. method-stays i image_with refl none_gone n (all-statements (λ s. false ≡ false) (λ s. refl) n.tree.body.statements))
          (record {
            class = refl;
            meta = refl;
            selector = sym (selector-anew image_with refl h);
            place = Some (c, meta);
            opens = opens;
            doing =
                subst (λ d. UnfoldsDoing (resolved_image i) none_gone (Some (c, meta)) d (doing_of image_with anew (normal tree).primitive)) (sym (doing-before image_with refl h))
                (subst (λ d. UnfoldsDoing (resolved_image i) none_gone (Some (c, meta)) (by_code (code_with (outer_of i m) m.tree m.tree.body.statements)) d) (sym (doing-anew image_with refl h)) u);
          }));
      doits = doits-stay i image_with refl none_gone i.doits (every i.doits);
    }
      where
        every : (ds : List (DoItOf Name)) → AllByRecursion (λ (d : DoItOf Name). StatementsSendOnly (λ s. none_gone.is_gone s ≡ false) d.body.statements) ds
        every [] = tt
        every (d ∷ ds) = (all-statements (λ s. false ≡ false) (λ s. refl) d.body.statements, every ds)

  -- the image with that method, and with a new one of a selector that nothing sends, unfolds to the image
  module _ (h : IsRewritten) (t : Name) (behind : EntryOf Name → Bool) (new : EntryOf Name) (called : text_eq new.tree.selector t ≡ true) where
    abbrev pub image_and : ImageOf Name
    image_and = record i { methods = put_behind_last behind new (map changed i.methods) }

    pub image-back : AllByRecursion (λ (x : ClassOf Name). text_eq [] x.name ≡ false) i.classes → ((k : ℕ) (n : EntryOf Name) → Rattle.std.specs.Prelude.slice_get i.methods k ≡ Some n → IsSentNowhereIn t n) →
        AllByRecursion (λ (d : DoItOf Name). StatementsSendOnly (λ s. text_eq s t ≡ false) d.body.statements) i.doits → IsOpen (resolved_image image_and) (one_gone t) (resolved_entry image_and anew) (c, meta) →
        UnfoldsDoing (resolved_image image_and) (one_gone t) (Some (c, meta)) (by_code (code_with (outer_of i m) m.tree tree.body.statements)) (by_code (code_with (outer_of i m) m.tree m.tree.body.statements)) → IsUnfolded (resolved_image image_and) (resolved_image i)
    image-back named unsent quiet opens u = record {
      gone = one_gone t;
      classes = refl;
      named = named-so i i.classes named;
      methods =
          put-missing i image_and (one_gone t) behind new called i.methods changed
          (each-changed (λ x y. UnfoldsMethod (resolved_image image_and) (one_gone t) (resolved_entry image_and y) (resolved_entry i x)) (λ k n at. method-stays image_and i refl (one_gone t) n (unsent k n at))
          (record {
            class = refl;
            meta = refl;
            selector = selector-anew image_and refl h;
            place = Some (c, meta);
            opens = opens;
            doing =
                subst (λ d. UnfoldsDoing (resolved_image image_and) (one_gone t) (Some (c, meta)) d (doing_of i m m.tree.primitive)) (sym (doing-anew image_and refl h))
                (subst (λ d. UnfoldsDoing (resolved_image image_and) (one_gone t) (Some (c, meta)) (by_code (code_with (outer_of i m) m.tree tree.body.statements)) d) (sym (doing-before image_and refl h)) u);
          }));
      doits = doits-stay image_and i refl (one_gone t) i.doits quiet;
    }
