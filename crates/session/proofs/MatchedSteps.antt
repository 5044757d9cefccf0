-- A step keeps the versions of the history matched with the first image.
use Rattle.std.proofs.Common.{◌≡◌, ℕ, ◌+◌, List, [], ◌∷◌, Result, Ok, Err, refl, sym, subst}
use Rattle.std.specs.Prelude.{OnOk, OnErr}
use Rattle.std.specs.List.{AllByRecursion}
use Rattle.image_model.specs.Image.{ImageOf}
use Rattle.run_model.specs.Values.{Name}
use Rattle.history_model.specs.History.{after_action, appended, by_result}
use Rattle.matched_histories.specs.MatchedHistories.{IsMatchedHistory, StaysMatched}
use Rattle.rule_model.specs.RuleCommands.{Reason}
use Rattle.ruled_model.specs.RuledScripts.{Asked, Version, History, ruled}
use Rattle.ruled_laws.specs.SpelledRequests.{IsSpelledAsked}
use Rattle.session.specs.Grouping.{after_group, grouped}

-- whether it is done or not
pub matched-after : {Q E : Type 0} (first : ImageOf Name) (wanted : Result History Q) (h g : History) (result : Result (Unit {0}) E) → (wanted ≡ Ok g → IsMatchedHistory first h → IsMatchedHistory first g) →
    OnOk result (wanted ≡ Ok g) → OnErr result (g ≡ h) → IsMatchedHistory first h → IsMatchedHistory first g
matched-after first wanted h g (Ok u) law done same all = law done all
matched-after first wanted h g (Err e) law done same all = subst (IsMatchedHistory first) (sym same) all

module _ (first : ImageOf Name) (acts : (v w : Version) (x : Asked) → IsSpelledAsked x → after_action ruled v x ≡ Ok w → StaysMatched first v w)
    (none : (v : Version) → StaysMatched first v v) (both : (u v w : Version) → StaysMatched first u v → StaysMatched first v w → StaysMatched first u w)
    (appends : (h : History) (w : Version) → IsMatchedHistory first h → StaysMatched first h.now w → IsMatchedHistory first (appended ruled h w)) where
  -- what is asked for, one after the other
  next-stays : (n : ℕ) (v w : Version) (x : Asked) (xs : List Asked) (r : Result Version Reason) → after_action ruled v x ≡ r → IsSpelledAsked x →
      ((u : Version) → after_group (n + 1) u xs ≡ Ok w → StaysMatched first u w) → by_result (λ u. after_group (n + 1) u xs) (λ q. Err (n, q)) r ≡ Ok w → StaysMatched first v w
  next-stays n v w x xs (Ok u) e spelled rest o = both v u w (acts v u x spelled e) (rest u o)
  next-stays n v w x xs (Err q) e spelled rest o = absurd (cc)

  group-stays : (n : ℕ) (v w : Version) (xs : List Asked) → AllByRecursion IsSpelledAsked xs → after_group n v xs ≡ Ok w → StaysMatched first v w
  group-stays n v w [] spelled o = let same : v ≡ w = cc in subst (StaysMatched first v) same (none v)
  group-stays n v w (x ∷ xs) spelled o = next-stays n v w x xs (after_action ruled v x) refl spelled.0 (λ u e. group-stays (n + 1) u w xs spelled.1 e) o

  -- as one entry
  entry-matched : (h g : History) (r : Result Version (ℕ × Reason)) → ((v : Version) → r ≡ Ok v → StaysMatched first h.now v) → by_result (λ v. Ok (appended ruled h v)) (λ q. Err q) r ≡ Ok g →
      IsMatchedHistory first h → IsMatchedHistory first g
  entry-matched h g (Ok v) stays o all = let same : appended ruled h v ≡ g = cc in subst (IsMatchedHistory first) same (appends h v all (stays v refl))
  entry-matched h g (Err q) stays o all = absurd (cc)

  pub group-matched : (h g : History) (xs : List Asked) → AllByRecursion IsSpelledAsked xs → grouped h xs ≡ Ok g → IsMatchedHistory first h → IsMatchedHistory first g
  group-matched h g [] spelled o all = let same : h ≡ g = cc in subst (IsMatchedHistory first) same all
  group-matched h g (x ∷ xs) spelled o all = entry-matched h g (after_group 1 h.now (x ∷ xs)) (λ v e. group-stays 1 h.now v (x ∷ xs) spelled e) o all
