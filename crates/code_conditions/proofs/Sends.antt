-- Messages that parts of the user's methods are, and the methods that they find.
use Rattle.std.proofs.Common.{◌≡◌, ℕ, ◌&&◌, Bool, true, false, List, [], ◌∷◌, find, Option, None, Some, option_map, Result, refl, sym, ap, ◌∙◌}
use Rattle.std.specs.Prelude.{nat_eq, if◌then◌else◌, unwrap_or, IfOk}
use Rattle.std.specs.Bool.{beq}
use Rattle.std.specs.Cmp.{booleans_Decides}
use Rattle.std.specs.Option.{option_and_then, option_map_or}
use Rattle.std.proofs.lemmas.Bool.{and_parts}
use Rattle.image_model.specs.Image.{EntryOf}
use Rattle.image_model.specs.Lookup.{is_method}
use Rattle.class_table.specs.Slots.{Slots}
use Rattle.class_table.specs.View.{number_image}
use Rattle.command_model.specs.CodeEffects.{method_at, send_at, target_of}
use Rattle.command_model.specs.Parts.{Part}
use Rattle.command_model.specs.PartsOfText.{parts_of_text}
use Rattle.command_model.specs.Places.{SendOf, sent_by}
use Rattle.commands.specs.declared.command.MethodPart.{MethodPart}
use Rattle.commands.specs.declared.condition.Condition.{Condition}
use Rattle.commands.specs.declared.condition.Condition.TheVariants as condition
use Rattle.inline_questions.specs.Codes.{code_alone}
use Rattle.code_conditions.specs.Passes.{target_passes}
use Rattle.code_conditions.specs.Trees.{asked, users_part}
use Rattle.code_conditions.proofs.Made.{answer_is}
use Rattle.code_conditions.proofs.Through.{part-method}

-- what is found passes
pub find-passes : {X : Type 0} (test : X → Bool) (xs : List X) (x : X) → find test xs ≡ Some x → test x ≡ true
find-passes test [] x e = absurd (cc)
find-passes test (y ∷ ys) x e = by (test y) refl e (find-passes test ys x)
  where
    by : (b : Bool) → test y ≡ b → (if b then Some y else find test ys) ≡ Some x → (find test ys ≡ Some x → test x ≡ true) → test x ≡ true
    by true is e later = let same : y ≡ x = cc in ap test (sym same) ∙ is
    by false is e later = later e

-- the conditions ask nothing of the texts of the methods
passes-alone : (s : Slots) (c : ℕ) (k : Condition) (m : EntryOf ℕ) (e : SendOf ℕ) (t : EntryOf ℕ) → target_passes s c k (code_alone m) e (code_alone t) ≡ target_passes s c k m e t
passes-alone s c (condition.Inlinable n) m e t = refl
passes-alone s c (condition.PlainActuals p) m e t = refl
passes-alone s c (condition.NoCapture n spot) m e t = refl
passes-alone s c (condition.NoNewControl n spot) m e t = refl
passes-alone s c other m e t = refl

module _ (s : Slots) (p : MethodPart) where
  -- the method of the part is one of the side that is asked for
  pub side-found : (m : EntryOf ℕ) (part : Part) → ◌≡◌ {A = Option (EntryOf ℕ × Part)} (Some (m, part)) (users_part s p) → m.meta ≡ p.method.meta
  side-found m part e =
      users (find (is_method nat_eq p.method.class p.method.meta p.method.selector) (number_image s).methods) refl
      (part-method (λ (k : EntryOf ℕ). parts_of_text k.source p.from p.to) (method_at (asked s) (number_image s) p.method.class p.method.meta p.method.selector) m part e)
    where
      side : (k : EntryOf ℕ) → is_method nat_eq p.method.class p.method.meta p.method.selector k ≡ true → k.meta ≡ p.method.meta
      side k passes =
          let named : Bool = option_map_or (nat_eq p.method.class) k.class false in
          let spelled : Bool = nat_eq p.method.selector k.tree.selector in
          let sides = and_parts named (beq p.method.meta k.meta) (and_parts (named && beq p.method.meta k.meta) spelled passes).0 in
          sym ((booleans_Decides p.method.meta k.meta).0 sides.1)

      users : (o : Option (EntryOf ℕ)) → find (is_method nat_eq p.method.class p.method.meta p.method.selector) (number_image s).methods ≡ o
          → option_and_then (λ (k : EntryOf ℕ). if k.kernel then None else Some k) o ≡ Some m → m.meta ≡ p.method.meta
      users None found e = absurd (cc)
      users (Some k) found e = by k.kernel e
        where
          by : (b : Bool) → (if b then None else Some k) ≡ Some m → m.meta ≡ p.method.meta
          by true e = absurd (cc)
          by false e =
              let same : k ≡ m = cc in
              sym (ap (λ (x : EntryOf ℕ). x.meta) same) ∙ side k (find-passes (is_method nat_eq p.method.class p.method.meta p.method.selector) (number_image s).methods k found)

  -- a test of the message that the part is
  module _ (test : EntryOf ℕ × SendOf ℕ → Bool) where
    abbrev message : EntryOf ℕ × Part → Option (EntryOf ℕ × SendOf ℕ)
    message x = option_map {U = EntryOf ℕ × SendOf ℕ} (λ (e : SendOf ℕ). (x.0, e)) (sent_by x.0.tree x.1)

    abbrev pub passes : Bool
    passes = option_map_or test (send_at (asked s) (number_image s) p.method.class p.method.meta p.method.selector p.from p.to) false

    abbrev passes_of : Option (EntryOf ℕ × Part) → Bool
    passes_of o = option_map_or test (option_and_then message o) false

    pub no_part : ◌≡◌ {A = Option (EntryOf ℕ × Part)} None (users_part s p) → false ≡ passes
    no_part e = ap passes_of e

    module _ (m : EntryOf ℕ) (part : Part) (is : ◌≡◌ {A = Option (EntryOf ℕ × Part)} (Some (m, part)) (users_part s p)) where
      abbrev passes_sent : Option (SendOf ℕ) → Bool
      passes_sent o = option_map_or test (option_map {U = EntryOf ℕ × SendOf ℕ} (λ (e : SendOf ℕ). (m, e)) o) false

      pub no_message : None ≡ sent_by m.tree part → false ≡ passes
      no_message none = ap passes_sent none ∙ ap passes_of is

      pub one_message : (e : SendOf ℕ) → Some e ≡ sent_by m.tree part → test (m, e) ≡ passes
      one_message e one = ap passes_sent one ∙ ap passes_of is

  -- a condition of the message and of the method that it finds
  module _ (k : Condition) where
    abbrev found : SendOf ℕ → Option (EntryOf ℕ)
    found e = target_of (asked s) (number_image s) p.method.class p.method.meta e

    abbrev pub holds : EntryOf ℕ × SendOf ℕ → Bool
    holds x = option_map_or (target_passes s p.method.class k x.0 x.1) (found x.1) false

    module _ (m : EntryOf ℕ) (part : Part) (is : ◌≡◌ {A = Option (EntryOf ℕ × Part)} (Some (m, part)) (users_part s p)) (e : SendOf ℕ) (one : Some e ≡ sent_by m.tree part) where
      pub no_target : None ≡ option_map code_alone (found e) → false ≡ passes holds
      no_target none = by (found e) none ∙ one_message holds m part is e one
        where
          by : (o : Option (EntryOf ℕ)) → None ≡ option_map code_alone o → false ≡ option_map_or (target_passes s p.method.class k m e) o false
          by None h = refl
          by (Some t) h = absurd (cc)

      pub one_target : {E : Type 0} (r : Result Bool E) (code target : EntryOf ℕ) → code ≡ code_alone m → Some target ≡ option_map code_alone (found e)
          → IfOk r (λ is. is ≡ target_passes s p.method.class k code e target) → IfOk r (λ is. is ≡ passes holds)
      one_target r code target alone some answer =
          answer_is r (target_passes s p.method.class k code e target) (passes holds) (by (found e) some ∙ one_message holds m part is e one) answer
        where
          by : (o : Option (EntryOf ℕ)) → Some target ≡ option_map code_alone o → target_passes s p.method.class k code e target ≡ option_map_or (target_passes s p.method.class k m e) o false
          by None h = absurd (cc)
          by (Some t) h =
              let same : target ≡ code_alone t = ap (λ (o : Option (EntryOf ℕ)). unwrap_or o target) h in
              (λ i. target_passes s p.method.class k (alone i) e (same i)) ∙ passes-alone s p.method.class k m e t
