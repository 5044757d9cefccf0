-- A new name that no method of the user for a selector has.
use Rattle.std.proofs.Common.{◌≡◌, ℕ, zero, suc, List, [], ◌∷◌, Option, Some, None, slice_get, refl, sym, ap, ◌∙◌, subst}
use Rattle.std.specs.Prelude.{Bool, true, false, not, ◌&&◌, cond, map, filter, filter_map, option_map}
use Rattle.std.specs.List.{AllByRecursion, cons_option}
use Rattle.std.specs.Option.{option_map_or}
use Rattle.std.proofs.Math.Bool.{beq}
use Rattle.std.proofs.lemmas.Bool.{false≢true}
use Rattle.rb_base.specs.Names.{text_eq}
use Rattle.rb_base.proofs.NamesLemmas.{text_eq-refl}
use Rattle.image_model.specs.Image.{EntryOf, ImageOf}
use Rattle.image_model.specs.Lookup.{is_method}
use Rattle.image_model.specs.Valid.{HasClass, HasNoRepeat, signature}
use Rattle.run_model.specs.Values.{Name}
use Rattle.mapped_model.proofs.RenamedVariableLemmas.{all-at}
use Rattle.rename_model.specs.NamesThere.{is_named_in_method}
use Rattle.rename_laws.proofs.OwnMethods.{found-one}
use Rattle.rename_laws.proofs.Unnamed.{denied}
use Rattle.command_model.specs.Allowed.{Meets}
use Rattle.command_model.specs.Asked.{text_asked}
use Rattle.command_model.specs.CodeNeeds.{in_no_implementor}
use Rattle.command_model.specs.Commands.{CommandOf}
use Rattle.command_model.specs.Conditions.{ConditionOf, NotIn}
use Rattle.command_model.specs.Places.{users_method}
use Rattle.command_model.proofs.UsersMethods.{users-own}

module _ (i : ImageOf Name) (command : CommandOf Name) (s x : Name) where
  -- what the condition says of a method
  abbrev asks : EntryOf Name → Option (ConditionOf Name)
  asks m = option_map (λ c. NotIn c m.meta s x) m.class

  abbrev is_one : EntryOf Name → Bool
  is_one m = not m.kernel && text_eq s m.tree.selector

  -- the condition on the first of some methods, and those on the others
  front : (n : EntryOf Name) (rest : List (EntryOf Name)) (b : Bool) → AllByRecursion (Meets text_asked i command) (filter_map asks (cond b (n ∷ rest) rest)) →
      ((q : ConditionOf Name) → b ≡ true → asks n ≡ Some q → Meets text_asked i command q) × AllByRecursion (Meets text_asked i command) (filter_map asks rest)
  front n rest true h = by (asks n) h
    where
      by : (o : Option (ConditionOf Name)) → AllByRecursion (Meets text_asked i command) (cons_option o (filter_map asks rest)) →
          ((q : ConditionOf Name) → true ≡ true → o ≡ Some q → Meets text_asked i command q) × AllByRecursion (Meets text_asked i command) (filter_map asks rest)
      by None g = (λ q t e. absurd (cc), g)
      by (Some p) g = (λ q t e. subst (Meets text_asked i command) (let same : p ≡ q = cc in same) g.0, g.1)
  front n rest false h = (λ q t e. absurd (false≢true t), h)

  asked : (ms : List (EntryOf Name)) → AllByRecursion (Meets text_asked i command) (filter_map asks (filter is_one ms)) → (j : ℕ) (m : EntryOf Name) → slice_get ms j ≡ Some m → is_one m ≡ true →
      (c : Name) → m.class ≡ Some c → Meets text_asked i command (NotIn c m.meta s x)
  asked [] h j m at e c q = absurd (cc)
  asked (n ∷ ms) h zero m at e c q =
      let same : n ≡ m = cc in
      (front n (filter is_one ms) (is_one n) h).0 (NotIn c m.meta s x) (ap is_one same ∙ e) (ap asks same ∙ ap (option_map (λ d. NotIn d m.meta s x)) q)
  asked (n ∷ ms) h (suc j) m at e c q = asked ms (front n (filter is_one ms) (is_one n) h).1 j m at e c q

  -- a method has its own class, side and selector
  own : (m : EntryOf Name) (c : Name) → m.class ≡ Some c → text_eq s m.tree.selector ≡ true → is_method text_eq c m.meta s m ≡ true
  own m c q t = (λ k. (option_map_or (text_eq c) (q k) false && beq m.meta m.meta) && t k) ∙ (λ k. (text_eq-refl c k && side m.meta k) && true)
    where
      side : (b : Bool) → beq b b ≡ true
      side true = refl
      side false = refl

  -- where no method of the user for the selector is to have the name, none has it
  pub new-to : HasNoRepeat (map signature i.methods) → AllByRecursion (HasClass i.classes) i.methods → AllByRecursion (Meets text_asked i command) (in_no_implementor text_asked i s x) →
      (j : ℕ) (m : EntryOf Name) → slice_get i.methods j ≡ Some m → m.kernel ≡ false → text_eq s m.tree.selector ≡ true → is_named_in_method text_eq x m ≡ false
  new-to once classes h j m at k t =
      let class = all-at (HasClass i.classes) i.methods j m classes at in
      by class.0 class.1 (users_method text_eq i class.0 m.meta s) refl (asked i.methods h j m at (λ z. not (k z) && t z) class.0 class.1)
    where
      by : (c : Name) → m.class ≡ Some c → (o : Option (EntryOf Name)) → users_method text_eq i c m.meta s ≡ o → option_map_or (λ n. not (is_named_in_method text_eq x n)) o false ≡ true → is_named_in_method text_eq x m ≡ false
      by c q None p e = absurd (false≢true e)
      by c q (Some n) p e =
          ap (is_named_in_method text_eq x) (sym (found-one c m.meta s i.methods once j m at (own m c q t) n (users-own text_eq i c m.meta s n p))) ∙ denied (is_named_in_method text_eq x n) e
