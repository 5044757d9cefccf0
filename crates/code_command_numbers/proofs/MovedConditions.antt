-- The conditions of commands that move code, and which of them hold, are the same once names are changed one to one.
use Rattle.std.proofs.Common.{◌≡◌, ℕ, Bool, false, List, [], ◌∷◌, ◌++◌, map, length, Option, Some, None, unwrap_or, option_map, refl, ap, ◌∙◌}
use Rattle.std.specs.Option.{option_map_or}
use Rattle.image_model.specs.Image.{EntryOf, ImageOf, map_entry, map_image}
use Rattle.image_model.proofs.Lists.{length-map}
use Rattle.rename_model.specs.ClassRenamed.{WritingOf}
use Rattle.command_model.specs.Parts.{Part}
use Rattle.command_model.specs.Asked.{AskedOf}
use Rattle.command_model.specs.Commands.{CommandOf, RenameClass, AbstractInstVar, ExtractMethod, InlineMethod, ExtractTemp, InlineTemp}
use Rattle.command_model.specs.Conditions.{of_methods, AtPart, AtName, ConditionOf, NoReflection, IsUserClass, GoodName, SelectorFresh, NotKernelSelector, Arity, Implements, PartIs, NoReturn, AssignsNoOuter, TempsSteady, ValueUnused, SelfSend, OneTarget, Inlinable, PlainActuals, NoCapture, NoNewControl, LetForm, FirstEvaluated, Shallow}
use Rattle.command_model.specs.Places.{users_method, SendOf}
use Rattle.command_model.specs.Extracted.{free_temporaries}
use Rattle.command_model.specs.Temporaries.{LetOf, let_of}
use Rattle.command_model.specs.CodeEffects.{part_at, send_at, target_of, tree_inlining, tree_extracting, tree_without, code_effect}
use Rattle.command_model.specs.CodeNeeds.{target_needs}
use Rattle.command_model.specs.CodeHolds.{are_low_extracted}
use Rattle.command_model.specs.PartConditions.{is_part, has_no_return, assigns_no_outer, are_temporaries_steady, is_value_unused, is_first_evaluated}
use Rattle.command_model.specs.InlineConditions.{is_self_send, is_inlinable, are_actuals_plain, captures_nothing, makes_no_control}
use Rattle.command_model.specs.LetConditions.{is_let_form, is_value_kept, is_value_no_control}
use Rattle.command_model.specs.Needs.{needs}
use Rattle.command_model.specs.Holds.{holds}
use Rattle.command_model.specs.Effects.{effect}
use Rattle.command_numbers.specs.MappedCommands.{map_command, map_condition}
use Rattle.command_numbers.specs.KeepsAsked.{KeepsWriting}
use Rattle.command_numbers.proofs.Lists.{or-total, made-total}
use Rattle.command_numbers.proofs.Everywhere.{Every}
use Rattle.command_numbers.proofs.TemporariesMapped.{users_method-map}
use Rattle.code_command_numbers.specs.KeepsMoves.{KeepsMoves}
use Rattle.code_command_numbers.proofs.PlacesMapped.{map_send}
use Rattle.code_command_numbers.proofs.LetsMapped.{map_let, let_of-map}
use Rattle.code_command_numbers.proofs.ExtractedMapped.{free_temporaries-map}
use Rattle.code_command_numbers.proofs.PartConditionsMapped.{is_part-map, has_no_return-map, assigns_no_outer-map, are_temporaries_steady-map, is_value_unused-map, is_first_evaluated-map}
use Rattle.code_command_numbers.proofs.InlineConditionsMapped.{is_self_send-map, is_one_target-map, is_inlinable-map, are_actuals_plain-map, captures_nothing-map, makes_no_control-map}
use Rattle.code_command_numbers.proofs.LetConditionsMapped.{is_let_form-map, is_value_kept-map, is_value_no_control-map}
use Rattle.code_command_numbers.proofs.MovesCode.{MovesCode, IsOfMove}
use Rattle.code_command_numbers.proofs.MovedEffects.{map_part, map_sent, part_at-map, send_at-map, target_of-map, tree_inlining-map, tree_extracting-map, tree_without-map, code_effect-map}
use Rattle.code_command_numbers.proofs.MovedHeights.{is_low_made-map, are_low_extracted-map, are_low_abstracted-map}

module _ {M N : Type 0} (f : M → N) (a : AskedOf M) (b : AskedOf N) (keeps : KeepsMoves Every f a b) (i : ImageOf M) where
  -- what is asked of a part, of a message and its target, and of an assignment
  of_part-map : (c : M) (meta : Bool) (s : M) (from to : ℕ) (p : EntryOf M → Part → Bool) (q : EntryOf N → Part → Bool) → ((m : EntryOf M) (part : Part) → q (map_entry f m) part ≡ p m part)
      → option_map_or (λ (e : EntryOf N × Part). q e.0 e.1) (part_at b (map_image f i) (f c) meta (f s) from to) false ≡ option_map_or (λ (e : EntryOf M × Part). p e.0 e.1) (part_at a i c meta s from to) false
  of_part-map c meta s from to p q e =
      ap (λ (o : Option (EntryOf N × Part)). option_map_or (λ (x : EntryOf N × Part). q x.0 x.1) o false) (part_at-map f a b keeps i c meta s from to)
      ∙ or-total (map_part f) (λ (x : EntryOf M × Part). p x.0 x.1) (λ (x : EntryOf N × Part). q x.0 x.1) false (λ x. e x.0 x.1) (part_at a i c meta s from to)

  of_target-map : (c : M) (meta : Bool) (s : M) (from to : ℕ) (p : EntryOf M → SendOf M → EntryOf M → Bool) (q : EntryOf N → SendOf N → EntryOf N → Bool) → ((m : EntryOf M) (e : SendOf M) (target : EntryOf M) → q (map_entry f m) (map_send f e) (map_entry f target) ≡ p m e target)
      → option_map_or (λ (e : EntryOf N × SendOf N). option_map_or (q e.0 e.1) (target_of b (map_image f i) (f c) meta e.1) false) (send_at b (map_image f i) (f c) meta (f s) from to) false
      ≡ option_map_or (λ (e : EntryOf M × SendOf M). option_map_or (p e.0 e.1) (target_of a i c meta e.1) false) (send_at a i c meta s from to) false
  of_target-map c meta s from to p q e =
      ap (λ (o : Option (EntryOf N × SendOf N)). option_map_or asked_there o false) (send_at-map f a b keeps i c meta s from to)
      ∙ or-total (map_sent f) asked asked_there false
      (λ x. ap (λ (o : Option (EntryOf N)). option_map_or (q (map_entry f x.0) (map_send f x.1)) o false) (target_of-map f a b keeps i c meta x.1)
      ∙ or-total (map_entry f) (p x.0 x.1) (q (map_entry f x.0) (map_send f x.1)) false (e x.0 x.1) (target_of a i c meta x.1)) (send_at a i c meta s from to)
    where
      asked : EntryOf M × SendOf M → Bool
      asked x = option_map_or (p x.0 x.1) (target_of a i c meta x.1) false

      asked_there : EntryOf N × SendOf N → Bool
      asked_there x = option_map_or (q x.0 x.1) (target_of b (map_image f i) (f c) meta x.1) false

  of_let-map : (c : M) (meta : Bool) (s x : M) (p : EntryOf M → LetOf M → Bool) (q : EntryOf N → LetOf N → Bool) → ((m : EntryOf M) (e : LetOf M) → q (map_entry f m) (map_let f e) ≡ p m e)
      → option_map_or (λ (m : EntryOf N). option_map_or (q m) (let_of b m.tree (f x)) false) (users_method b.words.tests.same (map_image f i) (f c) meta (f s)) false
      ≡ option_map_or (λ (m : EntryOf M). option_map_or (p m) (let_of a m.tree x) false) (users_method a.words.tests.same i c meta s) false
  of_let-map c meta s x p q e =
      ap (λ (o : Option (EntryOf N)). option_map_or (λ (m : EntryOf N). option_map_or (q m) (let_of b m.tree (f x)) false) o false) (users_method-map f a.words b.words keeps.asked.words i c meta s)
      ∙ or-total (map_entry f) (λ (m : EntryOf M). option_map_or (p m) (let_of a m.tree x) false) (λ (m : EntryOf N). option_map_or (q m) (let_of b m.tree (f x)) false) false
      (λ m. ap (λ (o : Option (LetOf N)). option_map_or (q (map_entry f m)) o false) (let_of-map f a b keeps.asked m.tree x) ∙ or-total (map_let f) (p m) (q (map_entry f m)) false (e m) (let_of a m.tree x))
      (users_method a.words.tests.same i c meta s)

  inlinable-map : (command : CommandOf M) (c : M) (meta : Bool) (s : M) → holds b (map_image f i) (map_command f command) (Inlinable (f c) meta (f s)) ≡ holds a i command (Inlinable c meta s)
  inlinable-map (RenameClass d e) c meta s = refl
  inlinable-map (InlineMethod d side t from to) c meta s = of_target-map d side t from to (is_inlinable a i d) (is_inlinable b (map_image f i) (f d)) (is_inlinable-map f a b keeps i d)
  inlinable-map command c meta s = refl

  -- how high what a command changes or adds is after
  shallow_holds : (command : CommandOf M) → MovesCode command → holds b (map_image f i) (map_command f command) Shallow ≡ holds a i command Shallow
  shallow_holds (AbstractInstVar c x setter given) moves = are_low_abstracted-map f a b keeps i c x setter given
  shallow_holds (ExtractMethod c meta s from to t) moves = of_part-map c meta s from to (are_low_extracted a i t) (are_low_extracted b (map_image f i) (f t)) (are_low_extracted-map f a b keeps i t)
  shallow_holds (InlineMethod c meta s from to) moves = is_low_made-map f a b keeps i c meta s (tree_inlining a i c meta s from to) (tree_inlining b (map_image f i) (f c) meta (f s) from to) (tree_inlining-map f a b keeps i c meta s from to)
  shallow_holds (ExtractTemp c meta s from to x) moves = is_low_made-map f a b keeps i c meta s (tree_extracting a i from to x) (tree_extracting b (map_image f i) from to (f x)) (tree_extracting-map f a b keeps i from to x)
  shallow_holds (InlineTemp c meta s x) moves = is_low_made-map f a b keeps i c meta s (tree_without a i x) (tree_without b (map_image f i) (f x)) (tree_without-map f a b keeps i x)
  shallow_holds command moves = absurd moves

  -- whether a condition holds
  pub moved_holds-map : (command : CommandOf M) (condition : ConditionOf M) → IsOfMove command condition → holds b (map_image f i) (map_command f command) (map_condition f condition) ≡ holds a i command condition
  moved_holds-map command (PartIs c meta s from to) moves = of_part-map c meta s from to (λ m part. is_part a m.tree part) (λ m part. is_part b m.tree part) (λ m part. is_part-map f a b keeps m.tree part)
  moved_holds-map command (NoReturn c meta s from to) moves = of_part-map c meta s from to (λ m part. has_no_return m.tree part) (λ m part. has_no_return m.tree part) (λ m part. has_no_return-map f m.tree part)
  moved_holds-map command (AssignsNoOuter c meta s from to) moves = of_part-map c meta s from to (λ m part. assigns_no_outer a m.tree part) (λ m part. assigns_no_outer b m.tree part) (λ m part. assigns_no_outer-map f a b keeps m.tree part)
  moved_holds-map command (TempsSteady c meta s from to) moves =
      of_part-map c meta s from to (λ m part. are_temporaries_steady a m.tree part) (λ m part. are_temporaries_steady b m.tree part) (λ m part. are_temporaries_steady-map f a b keeps m.tree part)
  moved_holds-map command (ValueUnused c meta s from to) moves = of_part-map c meta s from to (λ m part. is_value_unused m.tree part) (λ m part. is_value_unused m.tree part) (λ m part. is_value_unused-map f m.tree part)
  moved_holds-map command (SelfSend c meta s from to) moves =
      ap (λ (o : Option (EntryOf N × SendOf N)). option_map_or (λ (e : EntryOf N × SendOf N). is_self_send b (map_image f i) e.1) o false) (send_at-map f a b keeps i c meta s from to)
      ∙ or-total (map_sent f) (λ (e : EntryOf M × SendOf M). is_self_send a i e.1) (λ (e : EntryOf N × SendOf N). is_self_send b (map_image f i) e.1) false (λ e. is_self_send-map f a b keeps i e.1) (send_at a i c meta s from to)
  moved_holds-map command (OneTarget c meta s) moves = is_one_target-map f a b keeps i c meta s
  moved_holds-map command (Inlinable c meta s) moves = inlinable-map command c meta s
  moved_holds-map command (PlainActuals c meta s from to) moves = of_target-map c meta s from to (are_actuals_plain a i) (are_actuals_plain b (map_image f i)) (are_actuals_plain-map f a b keeps i)
  moved_holds-map command (NoCapture c meta s (AtPart from to)) moves = of_target-map c meta s from to (captures_nothing a i) (captures_nothing b (map_image f i)) (captures_nothing-map f a b keeps i)
  moved_holds-map command (NoCapture c meta s (AtName x)) moves = of_let-map c meta s x (λ m e. is_value_kept a i m x e) (λ m e. is_value_kept b (map_image f i) m (f x) e) (λ m e. is_value_kept-map f a b keeps i m x e)
  moved_holds-map command (NoNewControl c meta s (AtPart from to)) moves = of_target-map c meta s from to (makes_no_control a i) (makes_no_control b (map_image f i)) (makes_no_control-map f a b keeps i)
  moved_holds-map command (NoNewControl c meta s (AtName x)) moves =
      of_let-map c meta s x (λ m e. is_value_no_control a i m x e) (λ m e. is_value_no_control b (map_image f i) m (f x) e) (λ m e. is_value_no_control-map f a b keeps i m x e)
  moved_holds-map command (LetForm c meta s x) moves = of_let-map c meta s x (λ m e. is_let_form a i m x e) (λ m e. is_let_form b (map_image f i) m (f x) e) (λ m e. is_let_form-map f a b keeps i m x e)
  moved_holds-map command (FirstEvaluated c meta s from to) moves = of_part-map c meta s from to (is_first_evaluated a i) (is_first_evaluated b (map_image f i)) (is_first_evaluated-map f a b keeps i)
  moved_holds-map command Shallow moves = shallow_holds command moves
  moved_holds-map command condition moves = absurd moves

  -- the conditions behind the target of a message
  target_needs-map : (c : M) (meta : Bool) (s : M) (from to : ℕ) (e : SendOf M) → target_needs b (map_image f i) (f c) meta (f s) from to (map_send f e) ≡ map (map_condition f) (target_needs a i c meta s from to e)
  target_needs-map c meta s from to e =
      ap (λ (ks : List (ConditionOf N)). OneTarget (f c) meta (f e.selector) ∷ ks)
      (ap (λ (o : Option (EntryOf N)). option_map_or behind_there o []) (target_of-map f a b keeps i c meta e)
      ∙ made-total (map_entry f) (map (map_condition f)) behind behind_there [] [] behinds refl (target_of a i c meta e))
    where
      last : List (ConditionOf M)
      last = PlainActuals c meta s from to ∷ NoCapture c meta s (AtPart from to) ∷ NoNewControl c meta s (AtPart from to) ∷ Shallow ∷ []

      last_there : List (ConditionOf N)
      last_there = PlainActuals (f c) meta (f s) from to ∷ NoCapture (f c) meta (f s) (AtPart from to) ∷ NoNewControl (f c) meta (f s) (AtPart from to) ∷ Shallow ∷ []

      behind : EntryOf M → List (ConditionOf M)
      behind target = option_map_or (λ d. Inlinable d target.meta e.selector ∷ []) target.class [] ++ last

      behind_there : EntryOf N → List (ConditionOf N)
      behind_there target = option_map_or (λ d. Inlinable d target.meta (f e.selector) ∷ []) target.class [] ++ last_there

      behinds : (target : EntryOf M) → behind_there (map_entry f target) ≡ map (map_condition f) (behind target)
      behinds target = by target.class
        where
          by : (o : Option M) → option_map_or (λ d. Inlinable d target.meta (f e.selector) ∷ []) (option_map f o) [] ++ last_there ≡ map (map_condition f) (option_map_or (λ d. Inlinable d target.meta e.selector ∷ []) o [] ++ last)
          by None = refl
          by (Some d) = refl

  -- all conditions
  pub moved_needs-map : (command : CommandOf M) → MovesCode command → needs b (map_image f i) (map_command f command) ≡ map (map_condition f) (needs a i command)
  moved_needs-map (AbstractInstVar c x setter given) moves = refl
  moved_needs-map (ExtractMethod c meta s from to t) moves =
      ap (λ (ks : List (ConditionOf N)). NoReflection ∷ IsUserClass (f c) ∷ Implements (f c) meta (f s) ∷ PartIs (f c) meta (f s) from to ∷ NoReturn (f c) meta (f s) from to ∷ AssignsNoOuter (f c) meta (f s) from to
      ∷ TempsSteady (f c) meta (f s) from to ∷ ValueUnused (f c) meta (f s) from to ∷ GoodName (f t) of_methods ∷ NotKernelSelector (f t) ∷ ks)
      (ap (λ (o : Option (EntryOf N × Part)). option_map_or behind_there o []) (part_at-map f a b keeps i c meta s from to)
      ∙ made-total (map_part f) (map (map_condition f)) behind behind_there [] []
      (λ e. ap (λ (n : ℕ). Arity (f t) n ∷ SelectorFresh (f t) ∷ Shallow ∷ []) (ap length (free_temporaries-map f a b keeps.asked e.0.tree e.1) ∙ length-map f (free_temporaries a e.0.tree e.1))) refl (part_at a i c meta s from to))
    where
      behind : EntryOf M × Part → List (ConditionOf M)
      behind e = Arity t (length (free_temporaries a e.0.tree e.1)) ∷ SelectorFresh t ∷ Shallow ∷ []

      behind_there : EntryOf N × Part → List (ConditionOf N)
      behind_there e = Arity (f t) (length (free_temporaries b e.0.tree e.1)) ∷ SelectorFresh (f t) ∷ Shallow ∷ []
  moved_needs-map (InlineMethod c meta s from to) moves =
      ap (λ (ks : List (ConditionOf N)). NoReflection ∷ IsUserClass (f c) ∷ Implements (f c) meta (f s) ∷ SelfSend (f c) meta (f s) from to ∷ ks)
      (ap (λ (o : Option (EntryOf N × SendOf N)). option_map_or (λ (e : EntryOf N × SendOf N). target_needs b (map_image f i) (f c) meta (f s) from to e.1) o []) (send_at-map f a b keeps i c meta s from to)
      ∙ made-total (map_sent f) (map (map_condition f)) (λ (e : EntryOf M × SendOf M). target_needs a i c meta s from to e.1) (λ (e : EntryOf N × SendOf N). target_needs b (map_image f i) (f c) meta (f s) from to e.1) [] []
      (λ e. target_needs-map c meta s from to e.1) refl (send_at a i c meta s from to))
  moved_needs-map (ExtractTemp c meta s from to x) moves = refl
  moved_needs-map (InlineTemp c meta s x) moves = refl
  moved_needs-map command moves = absurd moves

  module _ (writing : WritingOf M) (writing_there : WritingOf N) (written : KeepsWriting Every f writing writing_there) where
    after-map : (o : Option (ImageOf M)) → unwrap_or (option_map (map_image f) o) (map_image f i) ≡ map_image f (unwrap_or o i)
    after-map None = refl
    after-map (Some j) = refl

    changes : (command : CommandOf M) → MovesCode command → unwrap_or (code_effect b (map_image f i) writing_there (map_command f command)) (map_image f i) ≡ map_image f (unwrap_or (code_effect a i writing command) i)
    changes command moves = ap (λ (o : Option (ImageOf N)). unwrap_or o (map_image f i)) (code_effect-map f a b keeps i writing writing_there written command moves) ∙ after-map (code_effect a i writing command)

    -- the image after
    pub moved_effect-map : (command : CommandOf M) → MovesCode command → effect b writing_there (map_command f command) (map_image f i) ≡ map_image f (effect a writing command i)
    moved_effect-map (AbstractInstVar c x setter given) moves = changes (AbstractInstVar c x setter given) tt
    moved_effect-map (ExtractMethod c meta s from to t) moves = changes (ExtractMethod c meta s from to t) tt
    moved_effect-map (InlineMethod c meta s from to) moves = changes (InlineMethod c meta s from to) tt
    moved_effect-map (ExtractTemp c meta s from to x) moves = changes (ExtractTemp c meta s from to x) tt
    moved_effect-map (InlineTemp c meta s x) moves = changes (InlineTemp c meta s x) tt
    moved_effect-map command moves = absurd moves
