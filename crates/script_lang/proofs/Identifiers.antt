-- Words that are names.
use Rattle.std.proofs.Common.{◌≡◌, ℕ, ◌+◌, ◌<◌, Bool, true, false, ◌&&◌, if◌then◌else◌, List, [], ◌∷◌, ◌++◌, length, take, Option, Some, None, get_or, refl, sym, ap, subst, ◌∙◌}
use Rattle.std.specs.List.{AllByRecursion, list_all}
use Rattle.std.specs.Borrow.{Bor}
use Rattle.std.proofs.lemmas.List.{map-append, take_more}
use Rattle.std.proofs.lemmas.List.Folds.{list_all-append, list_all-map, list_all_at}
use Rattle.rb_base.specs.Names.{name_at}
use Rattle.text_model.specs.Literals.{is_identifier}
use Rattle.event_trees.specs.Naming.{Grows}
use Rattle.script_model.specs.Arguments.{Argument, name, a_class, argument}
use Rattle.script_model.specs.Makers.{Text}
use Rattle.script_lang.specs.Shown.{AreNames, texts}
use Rattle.script_lang.proofs.Growing.{names-grown, numbers-grown}

-- a word that is a name, and one that is none
is-name : (w t : Text) → argument a_class w ≡ Some (name t) → (is_identifier w ≡ true) × (w ≡ t)
is-name w t = by (is_identifier w) refl
  where
    by : (b : Bool) → is_identifier w ≡ b → (if b then Some (name w) else None) ≡ Some (name t) → (is_identifier w ≡ true) × (w ≡ t)
    by true e said = let same : w ≡ t = cc in (e, same)
    by false e said = absurd (cc)

no-name : (w : Text) → argument a_class w ≡ None → is_identifier w ≡ false
no-name w = by (is_identifier w) refl
  where
    by : (b : Bool) → is_identifier w ≡ b → (let o : Option Argument = if b then Some (name w) else None in o) ≡ None → is_identifier w ≡ false
    by true e said = absurd (cc)
    by false e said = e

-- one more number that is known
all-known : (n : ℕ) (P : ℕ → Type 0) (ids : List ℕ) → AllByRecursion P ids → P n → AllByRecursion P (ids ++ n ∷ [])
all-known n P [] h p = (p, tt)
all-known n P (i ∷ ids) h p = (h.0, all-known n P ids h.1 p)

-- no names yet
pub no-names : (names : List Text) → AreNames names [] []
no-names names = record { spelled = refl; texts = refl; known = tt }

module _ (ws : List (Bor Text)) (i : ℕ) (d : Bor Text) (lt : i < length ws) where
  -- one more name
  pub one-more-name : {names later : List Text} {ids new : List ℕ} {n : ℕ} → AreNames names ids (texts (take i ws)) → Grows names later → argument a_class (get_or ws i d).now ≡ Some (name (name_at later n)) → n < length later → new ≡ ids ++ n ∷ []
      → AreNames later new (texts (take (i + 1) ws))
  one-more-name {names} {later} {ids} {new} {n} a g said known more =
      let is = is-name (get_or ws i d).now (name_at later n) said in
      let taken : texts (take (i + 1) ws) ≡ texts (take i ws) ++ (get_or ws i d).now ∷ [] = ap texts (take_more ws i d lt) ∙ map-append (λ (w : Bor Text). w.now) (take i ws) (get_or ws i d ∷ []) in
      subst (λ (ms : List ℕ). AreNames later ms (texts (take (i + 1) ws))) (sym more) (subst (AreNames later (ids ++ n ∷ [])) (sym taken) (
      record {
        spelled = list_all-append is_identifier (texts (take i ws)) ((get_or ws i d).now ∷ []) ∙ (λ j. a.spelled j && (is.0 j && true));
        texts =
            (λ j. a.texts j ++ is.1 j ∷ [])
            ∙ ap (λ (ts : List Text). ts ++ name_at later n ∷ []) (sym (names-grown g ids a.known))
            ∙ sym (map-append (name_at later) ids (n ∷ []));
        known = all-known n (λ k. k < length later) ids (numbers-grown g ids a.known) known;
      }
      ))

  -- a word that is no name
  pub not-named : argument a_class (get_or ws i d).now ≡ None → list_all is_identifier (texts ws) ≡ false
  not-named said = list_all-map is_identifier (λ (w : Bor Text). w.now) ws ∙ list_all_at (λ (w : Bor Text). is_identifier w.now) ws i d lt (no-name (get_or ws i d).now said)
