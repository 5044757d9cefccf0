-- A command for which `Unreached` is the first condition that is false brings or moves a method that is there.
use Rattle.std.proofs.Common.{◌≡◌, ℕ, Bool, true, false, not, cond, ◌||◌, ◌&&◌, List, [], ◌∷◌, ◌++◌, Option, Some, None, refl, sym, ap, ◌∙◌, true≢false}
use Rattle.std.specs.Prelude.{find, map, filter, filter_map, option_map, is_some, length}
use Rattle.std.specs.List.{list_any, cons_option}
use Rattle.std.specs.Option.{option_map_or}
use Rattle.std.proofs.lemmas.List.Folds.{list_any-append}
use Rattle.tree_model.specs.Tree.{MethodOf}
use Rattle.image_model.specs.Image.{ClassOf, EntryOf, ImageOf}
use Rattle.image_model.specs.Chain.{class_named}
use Rattle.rename_model.specs.Conditions.{is_user_class}
use Rattle.command_model.specs.Asked.{AskedOf}
use Rattle.command_model.specs.Commands.{CommandOf, RenameClass, AddClass, RemoveClass, AddInstVar, RenameInstVar, RemoveInstVar, PushUpInstVar, PushDownInstVar, AddClassVar, RenameClassVar, RemoveClassVar, PushUpClassVar, PushDownClassVar, AddClassSideVar, RenameClassSideVar, RemoveClassSideVar, RenameSelector, AddMethod, RemoveMethod, PushUpMethod, PushDownMethod, AddParameter, RemoveParameter, AbstractInstVar, ExtractMethod, InlineMethod, ExtractTemp, InlineTemp, RenameTemp}
use Rattle.command_model.specs.Conditions.{ConditionOf, NoReflection, IsUserClass, NotImplements, Implements, ParentIsUser, NoSuper, MeansSame, Unreached, ChildOf, VariableFree, NotIn, AtomLiteral, Shallow, Inlinable, PlainActuals, NoCapture, NoNewControl, AtPart, Arity, SelectorFresh}
use Rattle.command_model.specs.Hierarchy.{is_class, superclass_name, receivers}
use Rattle.command_model.specs.MethodConditions.{implements}
use Rattle.command_model.specs.Needs.{needs, further_needs}
use Rattle.command_model.specs.CodeNeeds.{in_no_implementor, target_needs}
use Rattle.command_model.specs.Extracted.{free_temporaries}
use Rattle.command_model.specs.CodeEffects.{part_at, send_at, target_of}
use Rattle.command_model.specs.Holds.{holds}
use Rattle.command_model.specs.Judged.{first_false}
use Rattle.refusal_witnesses.specs.Refused.{is_moved_there}
use Rattle.use_witnesses.specs.Reached.{MovesSelector}

-- whether a condition is that one
abbrev is_unreached : ConditionOf ℕ → Bool
is_unreached (Unreached t) = true
is_unreached condition = false

or-true : (b : Bool) {c : Bool} → c ≡ true → (b || c) ≡ true
or-true true e = refl
or-true false e = e

-- what is found is in the list
found-among : (p : ConditionOf ℕ → Bool) (qs : List (ConditionOf ℕ)) (t : ℕ) → find p qs ≡ Some (Unreached t) → list_any is_unreached qs ≡ true
found-among p [] t e = absurd (cc)
found-among p (q ∷ qs) t e = by (p q) (found-among p qs t) e
  where
    by : (b : Bool) → (find p qs ≡ Some (Unreached t) → list_any is_unreached qs ≡ true) → (cond b (Some q) (find p qs)) ≡ Some (Unreached t) → (is_unreached q || list_any is_unreached qs) ≡ true
    by true rest g =
        let same : q ≡ Unreached t = cc in
        ap (λ (x : ConditionOf ℕ). is_unreached x || list_any is_unreached qs) same
    by false rest g = or-true (is_unreached q) (rest g)

-- a list without it gives it not
never : (p : ConditionOf ℕ → Bool) (qs : List (ConditionOf ℕ)) (t : ℕ) → list_any is_unreached qs ≡ false → find p qs ≡ Some (Unreached t) → ⊥
never p qs t none e = true≢false (sym (found-among p qs t e) ∙ none)

-- another condition before it holds, and it is found after that
module _ (p : ConditionOf ℕ → Bool) (q : ConditionOf ℕ) (qs : List (ConditionOf ℕ)) (t : ℕ) (other : is_unreached q ≡ false) (e : find p (q ∷ qs) ≡ Some (Unreached t)) where
  passed : (p q ≡ false) × (find p qs ≡ Some (Unreached t))
  passed = by (p q) refl e
    where
      by : (b : Bool) → p q ≡ b → cond b (Some q) (find p qs) ≡ Some (Unreached t) → (b ≡ false) × (find p qs ≡ Some (Unreached t))
      by true is g =
          let same : q ≡ Unreached t = cc in
          absurd (true≢false (sym (ap is_unreached same) ∙ other))
      by false is g = (refl, g)

-- what is not false is true
holding : (b : Bool) → not b ≡ false → b ≡ true
holding true e = refl
holding false e = absurd (true≢false e)

-- lists that are mapped, or that are given by an option
none-mapped : {X : Type 0} (f : X → ConditionOf ℕ) → ((x : X) → is_unreached (f x) ≡ false) → (xs : List X) → list_any is_unreached (map f xs) ≡ false
none-mapped f e [] = refl
none-mapped f e (x ∷ xs) = (λ i. e x i || none-mapped f e xs i)

none-given : {X : Type 0} (f : X → List (ConditionOf ℕ)) → ((x : X) → list_any is_unreached (f x) ≡ false) → (o : Option X) → list_any is_unreached (option_map_or f o []) ≡ false
none-given f e None = refl
none-given f e (Some x) = e x

none-there : {X : Type 0} (f : X → Option (ConditionOf ℕ)) → ((x : X) → option_map_or is_unreached (f x) false ≡ false) → (xs : List X) → list_any is_unreached (filter_map f xs) ≡ false
none-there f e [] = refl
none-there f e (x ∷ xs) = by (f x) (e x) (none-there f e xs)
  where
    by : (o : Option (ConditionOf ℕ)) → option_map_or is_unreached o false ≡ false → list_any is_unreached (filter_map f xs) ≡ false → list_any is_unreached (cons_option o (filter_map f xs)) ≡ false
    by None g rest = rest
    by (Some q) g rest = (λ i. g i || rest i)

none-joined : (ps qs : List (ConditionOf ℕ)) → list_any is_unreached ps ≡ false → list_any is_unreached qs ≡ false → list_any is_unreached (ps ++ qs) ≡ false
none-joined ps qs e f = list_any-append is_unreached ps qs ∙ (λ i. e i || f i)

-- the first condition that is false
module _ (a : AskedOf ℕ) (i : ImageOf ℕ) where
  abbrev Gives : CommandOf ℕ → Type 0
  Gives command = (t : ℕ) → first_false a i command ≡ Some (Unreached t) → MovesSelector command t × (is_moved_there a i command ≡ true)

  -- a command that has not got that condition
  without : (command : CommandOf ℕ) → list_any is_unreached (further_needs a i command) ≡ false → Gives command
  without command none t e = absurd (never (λ q. not (holds a i command q)) (needs a i command) t none e)

  -- a class of the user is a class
  of-users : (c : ℕ) → is_user_class a.words.tests.same i c ≡ true → is_class a.words.tests.same i c ≡ true
  of-users c e = by (class_named a.words.tests.same i.classes c) e
    where
      by : (o : Option (ClassOf ℕ)) → option_map_or (λ (e : ClassOf ℕ). not e.kernel) o false ≡ true → is_some o ≡ true
      by None g = absurd (true≢false (sym g))
      by (Some x) g = refl

  module _ (command : CommandOf ℕ) (t : ℕ) where
    abbrev p : ConditionOf ℕ → Bool
    p q = not (holds a i command q)

    -- the last one
    at-end : (s : ℕ) → find p (Unreached s ∷ []) ≡ Some (Unreached t) → t ≡ s
    at-end s e = by (p (Unreached s)) e
      where
        by : (b : Bool) → cond b (Some (Unreached s)) None ≡ Some (Unreached t) → t ≡ s
        by true g =
            let same : ◌≡◌ {A = ConditionOf ℕ} (Unreached s) (Unreached t) = cc in
            let is : s ≡ t = cc in
            sym is
        by false g = absurd (cc)

    -- after conditions of which none is that one
    behind : (ps qs : List (ConditionOf ℕ)) → list_any is_unreached ps ≡ false → find p (ps ++ qs) ≡ Some (Unreached t) → find p qs ≡ Some (Unreached t)
    behind [] qs none e = e
    behind (q ∷ ps) qs none e =
        let parts = none-or (is_unreached q) (list_any is_unreached ps) none in
        behind ps qs parts.1 (passed p q (ps ++ qs) t parts.0 e).1
      where
        none-or : (b c : Bool) → (b || c) ≡ false → (b ≡ false) × (c ≡ false)
        none-or true c g = absurd (true≢false g)
        none-or false c g = (refl, g)

  added : (c : ℕ) (meta : Bool) (protocol text : List ℕ) (tree : MethodOf ℕ) → Gives (AddMethod c meta protocol text tree)
  added c meta protocol text tree t e =
      let command = AddMethod c meta protocol text tree in
      let f = p command t in
      let one = passed f NoReflection (further_needs a i command) t refl e in
      let two = passed f (IsUserClass c) (NotImplements c meta tree.selector ∷ Unreached tree.selector ∷ []) t refl one.1 in
      let three = passed f (NotImplements c meta tree.selector) (Unreached tree.selector ∷ []) t refl two.1 in
      (at-end command t tree.selector three.1, of-users c (holding (is_user_class a.words.tests.same i c) two.0))

  pushed-up : (c : ℕ) (meta : Bool) (s : ℕ) → Gives (PushUpMethod c meta s)
  pushed-up c meta s t e =
      let command = PushUpMethod c meta s in
      let f = p command t in
      let one = passed f NoReflection (further_needs a i command) t refl e in
      let two = passed f (IsUserClass c) (Implements c meta s ∷ ParentIsUser c ∷ option_map_or rest (superclass_name a.words.tests.same i c) []) t refl one.1 in
      let three = passed f (Implements c meta s) (ParentIsUser c ∷ option_map_or rest (superclass_name a.words.tests.same i c) []) t refl two.1 in
      let four = passed f (ParentIsUser c) (option_map_or rest (superclass_name a.words.tests.same i c) []) t refl three.1 in
      let last = by (superclass_name a.words.tests.same i c) four.1 in
      (last.0, λ j. holding (implements a.words.tests.same i c meta s) three.0 j && last.1 j)
    where
      rest : ℕ → List (ConditionOf ℕ)
      rest q = NotImplements q meta s ∷ NoSuper c meta s ∷ MeansSame c meta s q ∷ Unreached s ∷ []

      by : (o : Option ℕ) → find (p (PushUpMethod c meta s) t) (option_map_or rest o []) ≡ Some (Unreached t) → (t ≡ s) × (is_some o ≡ true)
      by None g = absurd (cc)
      by (Some q) g = (at-end (PushUpMethod c meta s) t s (behind (PushUpMethod c meta s) t (NotImplements q meta s ∷ NoSuper c meta s ∷ MeansSame c meta s q ∷ []) (Unreached s ∷ []) refl g), refl)

  pushed-down : (c : ℕ) (meta : Bool) (s : ℕ) → Gives (PushDownMethod c meta s)
  pushed-down c meta s t e =
      let command = PushDownMethod c meta s in
      let f = p command t in
      let below = map (MeansSame c meta s) (receivers a.words.tests.same i c meta s) in
      let one = passed f NoReflection (further_needs a i command) t refl e in
      let two = passed f (IsUserClass c) (Implements c meta s ∷ NoSuper c meta s ∷ below ++ Unreached s ∷ []) t refl one.1 in
      let three = passed f (Implements c meta s) (NoSuper c meta s ∷ below ++ Unreached s ∷ []) t refl two.1 in
      let four = passed f (NoSuper c meta s) (below ++ Unreached s ∷ []) t refl three.1 in (
        at-end command t s (behind command t below (Unreached s ∷ []) (none-mapped (MeansSame c meta s) (λ d. refl) (receivers a.words.tests.same i c meta s)) four.1),
        holding (implements a.words.tests.same i c meta s) three.0,
      )

  -- what stands after the target of a message
  none-of-target : (c : ℕ) (meta : Bool) (s from to : ℕ) → list_any is_unreached (option_map_or (λ e. target_needs a i c meta s from to e.1) (send_at a i c meta s from to) []) ≡ false
  none-of-target c meta s from to =
      none-given (λ e. target_needs a i c meta s from to e.1) (λ e. none-given (λ (target : EntryOf ℕ).
      option_map_or (λ d. Inlinable d target.meta e.1.selector ∷ []) target.class []
      ++ PlainActuals c meta s from to ∷ NoCapture c meta s (AtPart from to) ∷ NoNewControl c meta s (AtPart from to) ∷ Shallow ∷ [])
      (λ target. none-joined (option_map_or (λ d. Inlinable d target.meta e.1.selector ∷ []) target.class []) _ (none-given (λ d. Inlinable d target.meta e.1.selector ∷ []) (λ d. refl) target.class) refl)
      (target_of a i c meta e.1)) (send_at a i c meta s from to)

  pub moving : (command : CommandOf ℕ) → Gives command
  moving (AddMethod c meta protocol text tree) = added c meta protocol text tree
  moving (PushUpMethod c meta s) = pushed-up c meta s
  moving (PushDownMethod c meta s) = pushed-down c meta s
  moving (RenameClass c d) = without (RenameClass c d) refl
  moving (AddClass d q under) = without (AddClass d q under) (none-mapped (λ s. ChildOf s q) (λ s. refl) under)
  moving (RemoveClass c) = without (RemoveClass c) refl
  moving (AddInstVar c x) = without (AddInstVar c x) refl
  moving (RenameInstVar c x y) = without (RenameInstVar c x y) refl
  moving (RemoveInstVar c x) = without (RemoveInstVar c x) refl
  moving (PushUpInstVar c x) = without (PushUpInstVar c x) (none-given (λ q. VariableFree q x ∷ []) (λ q. refl) (superclass_name a.words.tests.same i c))
  moving (PushDownInstVar c x) = without (PushDownInstVar c x) refl
  moving (AddClassVar c x) = without (AddClassVar c x) refl
  moving (RenameClassVar c x y) = without (RenameClassVar c x y) refl
  moving (RemoveClassVar c x) = without (RemoveClassVar c x) refl
  moving (PushUpClassVar c x) = without (PushUpClassVar c x) (none-given (λ q. VariableFree q x ∷ []) (λ q. refl) (superclass_name a.words.tests.same i c))
  moving (PushDownClassVar c x d) = without (PushDownClassVar c x d) refl
  moving (AddClassSideVar c x) = without (AddClassSideVar c x) refl
  moving (RenameClassSideVar c x y) = without (RenameClassSideVar c x y) refl
  moving (RemoveClassSideVar c x) = without (RemoveClassSideVar c x) refl
  moving (RenameSelector s t) = without (RenameSelector s t) refl
  moving (RemoveMethod c meta s) = without (RemoveMethod c meta s) refl
  moving (AddParameter s t x passed) =
      without (AddParameter s t x passed) (none-joined (in_no_implementor a i s x) (AtomLiteral ∷ Shallow ∷ []) (none-there (λ (m : EntryOf ℕ). option_map (λ c. NotIn c m.meta s x) m.class) (λ m. of-class m.class m.meta) (filter (λ (m : EntryOf ℕ). not m.kernel && a.words.tests.same s m.tree.selector) i.methods)) refl)
    where
      of-class : (o : Option ℕ) (meta : Bool) → option_map_or is_unreached (option_map (λ c. NotIn c meta s x) o) false ≡ false
      of-class None meta = refl
      of-class (Some c) meta = refl
  moving (RemoveParameter s k t) = without (RemoveParameter s k t) refl
  moving (AbstractInstVar c x setter given) = without (AbstractInstVar c x setter given) refl
  moving (ExtractMethod c meta s from to t) = without (ExtractMethod c meta s from to t) (none-given (λ e. Arity t (length (free_temporaries a e.0.tree e.1)) ∷ SelectorFresh t ∷ Shallow ∷ []) (λ e. refl) (part_at a i c meta s from to))
  moving (InlineMethod c meta s from to) = without (InlineMethod c meta s from to) (none-of-target c meta s from to)
  moving (ExtractTemp c meta s from to x) = without (ExtractTemp c meta s from to x) refl
  moving (InlineTemp c meta s x) = without (InlineTemp c meta s x) refl
  moving (RenameTemp c meta s x y) = without (RenameTemp c meta s x y) refl
