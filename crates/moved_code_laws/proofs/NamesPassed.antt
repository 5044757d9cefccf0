-- Which names of a part are passed.
use Rattle.std.proofs.Common.{◌≡◌, List, [], ◌∷◌, ◌++◌, Some, None, refl, sym, ap, ◌∙◌}
use Rattle.std.specs.Prelude.{Bool, true, false, not, ◌||◌, cond, if◌then◌else◌, filter}
use Rattle.std.proofs.lemmas.Bool.{false≢true}
use Rattle.std.proofs.lemmas.List.Folds.{list_any-append}
use Rattle.rb_base.specs.Names.{text_eq}
use Rattle.tree_model.specs.Tree.{TreeOf, var}
use Rattle.scope_model.specs.Scope.{is_among}
use Rattle.scope_model.specs.FreeNames.{each_once}
use Rattle.run_model.specs.Values.{Name}
use Rattle.run_model.proofs.Finite.{by_cases}
use Rattle.run_model.proofs.RenamingLemmas.{text-same}
use Rattle.rename_laws.proofs.TextsTold.{text-turned}
use Rattle.unfolded_places.specs.Inlining.{passed_for}
use Rattle.unfolded_places.proofs.SelfFilled.{themselves}
use Rattle.unfolded_calls.proofs.Running.{none-some, some-same}

-- a name among those that pass a test
pub among-filtered : (test : Name → Bool) (xs : List Name) (n : Name) → is_among text_eq xs n ≡ true → test n ≡ true → is_among text_eq (filter test xs) n ≡ true
among-filtered test [] n e t = absurd (false≢true e)
among-filtered test (x ∷ xs) n e t = by (test x) refl (among-filtered test xs n)
  where
    by : (b : Bool) → test x ≡ b → (is_among text_eq xs n ≡ true → test n ≡ true → is_among text_eq (filter test xs) n ≡ true) → is_among text_eq (cond b (x ∷ filter test xs) (filter test xs)) n ≡ true
    by true q ih = by_cases (text_eq n x) (λ h. ap (λ b. b || is_among text_eq (filter test xs) n) h) (λ f. ap (λ b. b || is_among text_eq (filter test xs) n) f ∙ ih (sym (ap (λ b. b || is_among text_eq xs n) f) ∙ e) t)
    by false q ih = by_cases (text_eq n x) (λ h. absurd (false≢true (sym q ∙ ap test (sym (text-same n x h)) ∙ t))) (λ f. ih (sym (ap (λ b. b || is_among text_eq xs n) f) ∙ e) t)

-- it passes it
pub filtered-passes : (test : Name → Bool) (xs : List Name) (n : Name) → is_among text_eq (filter test xs) n ≡ true → test n ≡ true
filtered-passes test [] n e = absurd (false≢true e)
filtered-passes test (x ∷ xs) n e = by (test x) refl e (filtered-passes test xs n)
  where
    by : (b : Bool) → test x ≡ b → is_among text_eq (cond b (x ∷ filter test xs) (filter test xs)) n ≡ true → (is_among text_eq (filter test xs) n ≡ true → test n ≡ true) → test n ≡ true
    by true q e ih = by_cases (text_eq n x) (λ h. ap test (text-same n x h) ∙ q) (λ f. ih (sym (ap (λ b. b || is_among text_eq (filter test xs) n) f) ∙ e))
    by false q e ih = ih e

-- each once
pub among-once : (xs : List Name) (n : Name) → is_among text_eq xs n ≡ true → is_among text_eq (each_once text_eq xs) n ≡ true
among-once [] n e = e
among-once (x ∷ xs) n e =
    by_cases (text_eq n x) (λ h. ap (λ b. b || is_among text_eq (filter (λ k. not (text_eq x k)) (each_once text_eq xs)) n) h)
    (λ f. ap (λ b. b || is_among text_eq (filter (λ k. not (text_eq x k)) (each_once text_eq xs)) n) f
    ∙ among-filtered (λ k. not (text_eq x k)) (each_once text_eq xs) n (among-once xs n (sym (ap (λ b. b || is_among text_eq xs n) f) ∙ e)) (ap not (text-turned x n ∙ f)))

-- a name of the first of two lists, and of the second
pub among-left : (xs ys : List Name) (n : Name) → is_among text_eq xs n ≡ true → is_among text_eq (xs ++ ys) n ≡ true
among-left xs ys n e = list_any-append (text_eq n) xs ys ∙ ap (λ b. b || is_among text_eq ys n) e

pub among-right : (xs ys : List Name) (n : Name) → is_among text_eq ys n ≡ true → is_among text_eq (xs ++ ys) n ≡ true
among-right xs ys n e = list_any-append (text_eq n) xs ys ∙ ap (λ b. is_among text_eq xs n || b) e ∙ always (is_among text_eq xs n)
  where
    always : (b : Bool) → (b || true) ≡ true
    always true = refl
    always false = refl

-- what is passed for a name is the name
pub passed-name : (names : List Name) (n : Name) (t : TreeOf Name) → passed_for names (themselves names) n ≡ Some t → t ≡ var n
passed-name [] n t e = none-some e
passed-name (x ∷ xs) n t e = by (text_eq n x) refl e (passed-name xs n t)
  where
    by : (b : Bool) → text_eq n x ≡ b → (if b then Some (var x) else passed_for xs (themselves xs) n) ≡ Some t → (passed_for xs (themselves xs) n ≡ Some t → t ≡ var n) → t ≡ var n
    by true q e ih = sym (some-same e) ∙ ap (λ y. var y) (sym (text-same n x q))
    by false q e ih = ih e

-- nothing is passed for a name that is not among them, and only for those
pub not-among : (names : List Name) (n : Name) → passed_for names (themselves names) n ≡ None → is_among text_eq names n ≡ false
not-among [] n e = refl
not-among (x ∷ xs) n e = by (text_eq n x) e (not-among xs n)
  where
    by : (b : Bool) → (if b then Some (var x) else passed_for xs (themselves xs) n) ≡ None → (passed_for xs (themselves xs) n ≡ None → is_among text_eq xs n ≡ false) → (b || is_among text_eq xs n) ≡ false
    by true e ih = none-some (sym e)
    by false e ih = ih e
