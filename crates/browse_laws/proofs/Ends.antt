-- Scripts that end with commands and as many undos, or with undos and as many redos.
use Rattle.std.proofs.Common.{◌≡◌, ℕ, zero, ◌+◌, suc, List, [], ◌∷◌, ◌++◌, map, length, Result, Ok, Err, refl, sym, ap, ◌∙◌, subst, arith}
use Rattle.std.specs.Prelude.{replicate}
use Rattle.history_model.specs.Rules.{RulesOf, RequestOf, Perform, Undo, Redo}
use Rattle.history_model.specs.History.{VersionOf, HistoryOf, by_result, appended, after_action, stepped}
use Rattle.history_model.specs.Verdicts.{RefusalOf, judged_from, verdict}

-- a list of one thing, with the last one apart
last-apart : {A : Type 0} (n : ℕ) (a : A) → replicate (suc n) a ≡ replicate n a ++ a ∷ []
last-apart zero a = refl
last-apart (suc n) a = ap (λ l. a ∷ l) (last-apart n a)

joined : {A : Type 0} (xs ys zs : List A) → xs ++ (ys ++ zs) ≡ (xs ++ ys) ++ zs
joined [] ys zs = refl
joined (x ∷ xs) ys zs = ap (λ l. x ∷ l) (joined xs ys zs)

module _ {I C X Q R : Type 0} (rules : RulesOf I C X Q R) where
  -- where a script is accepted, so is its first part, and the second one in the history after that
  record InParts (k : ℕ) (h : HistoryOf I R) (front back : List (RequestOf X)) (g : HistoryOf I R) : Type 0 where
    between : HistoryOf I R
    front_accepted : judged_from rules k h front ≡ Ok between
    back_accepted : judged_from rules (k + length front) between back ≡ Ok g

  part-by : (k : ℕ) (h : HistoryOf I R) (x : RequestOf X) (xs back : List (RequestOf X)) (g : HistoryOf I R) (r : Result (HistoryOf I R) Q) → stepped rules h x ≡ r →
      ((f : HistoryOf I R) → judged_from rules (suc k) f (xs ++ back) ≡ Ok g → InParts (suc k) f xs back g) →
      by_result (λ f. judged_from rules (suc k) f (xs ++ back)) (λ q. Err (record { number = k; condition = q })) r ≡ Ok g → InParts k h (x ∷ xs) back g
  part-by k h x xs back g (Err q) at ih e = absurd (cc)
  part-by k h x xs back g (Ok f) at ih e =
      let rest = ih f e in
      let number : k + suc (length xs) ≡ suc k + length xs = omega arith in
      record {
        between = rest.between;
        front_accepted = ap (by_result (λ f. judged_from rules (suc k) f xs) (λ q. Err (record { number = k; condition = q }))) at ∙ rest.front_accepted;
        back_accepted = ap (λ n. judged_from rules n rest.between back) number ∙ rest.back_accepted;
      }

  in-parts : (k : ℕ) (h : HistoryOf I R) (front back : List (RequestOf X)) (g : HistoryOf I R) → judged_from rules k h (front ++ back) ≡ Ok g → InParts k h front back g
  in-parts k h [] back g e =
      let number : k + 0 ≡ k = omega arith in
      record { between = h; front_accepted = refl; back_accepted = ap (λ n. judged_from rules n h back) number ∙ e }
  in-parts k h (x ∷ xs) back g e = part-by k h x xs back g (stepped rules h x) refl (λ f. in-parts (suc k) f xs back g) e

  -- the present version is the same, and so are those before it
  record IsBackAt (h g : HistoryOf I R) : Type 0 where
    now : g.now ≡ h.now
    earlier : g.earlier ≡ h.earlier

  undo-at : (k : ℕ) (earlier : List (VersionOf I R)) (now v : VersionOf I R) (vs later : List (VersionOf I R)) (g : HistoryOf I R) → earlier ≡ v ∷ vs →
      judged_from rules k (record { earlier = earlier; now = now; later = later }) (Undo ∷ []) ≡ Ok g → (g.now ≡ v) × (g.earlier ≡ vs)
  undo-at k earlier now v vs later g at e =
      let back : Ok (record { earlier = vs; now = v; later = now ∷ later }) ≡ Ok g = subst (λ l. judged_from rules k (record { earlier = l; now = now; later = later }) (Undo ∷ []) ≡ Ok g) at e in
      let same : record { earlier = vs; now = v; later = now ∷ later } ≡ g = cc in
      (sym (ap (λ (f : HistoryOf I R). f.now) same), sym (ap (λ (f : HistoryOf I R). f.earlier) same))

  -- commands, and an undo for each
  abbrev pub actions_undone : List X → List (RequestOf X)
  actions_undone xs = map (λ x. Perform x) xs ++ replicate (length xs) Undo

  one-more : (x : X) (xs : List X) → actions_undone (x ∷ xs) ≡ Perform x ∷ (actions_undone xs ++ Undo ∷ [])
  one-more x xs =
      ap (λ l. Perform x ∷ (map (λ y. Perform y) xs ++ l)) (last-apart (length xs) Undo)
      ∙ ap (λ l. Perform x ∷ l) (joined (map (λ y. Perform y) xs) (replicate (length xs) Undo) (Undo ∷ []))

  undo-by : (k : ℕ) (h : HistoryOf I R) (x : X) (xs : List X) (g : HistoryOf I R) (r : Result (VersionOf I R) Q) → after_action rules h.now x ≡ r →
      ((f m : HistoryOf I R) → judged_from rules (suc k) f (actions_undone xs) ≡ Ok m → IsBackAt f m) →
      judged_from rules k h (Perform x ∷ (actions_undone xs ++ Undo ∷ [])) ≡ Ok g → IsBackAt h g
  undo-by k h x xs g (Err q) at ih e =
      let refused : Result (HistoryOf I R) (RefusalOf Q) = Err (record { number = k; condition = q }) in
      let stop : refused ≡ Ok g =
      sym (ap (λ r. by_result (λ f. judged_from rules (suc k) f (actions_undone xs ++ Undo ∷ [])) (λ c. Err (record { number = k; condition = c })) (by_result (λ v. Ok (appended rules h v)) (λ c. Err c) r)) at) ∙ e in
      absurd (cc)
  undo-by k h x xs g (Ok v) at ih e =
      let rest : judged_from rules (suc k) (appended rules h v) (actions_undone xs ++ Undo ∷ []) ≡ Ok g =
      sym (ap (λ r. by_result (λ f. judged_from rules (suc k) f (actions_undone xs ++ Undo ∷ [])) (λ c. Err (record { number = k; condition = c })) (by_result (λ v. Ok (appended rules h v)) (λ c. Err c) r)) at) ∙ e in
      let parts = in-parts (suc k) (appended rules h v) (actions_undone xs) (Undo ∷ []) g rest in
      let mid = parts.between in
      let at_mid = ih (appended rules h v) mid parts.front_accepted in
      let done = undo-at (suc k + length (actions_undone xs)) mid.earlier mid.now h.now h.earlier mid.later g at_mid.earlier parts.back_accepted in
      record { now = done.0; earlier = done.1 }

  undone-back : (k : ℕ) (h : HistoryOf I R) (xs : List X) (g : HistoryOf I R) → judged_from rules k h (actions_undone xs) ≡ Ok g → IsBackAt h g
  undone-back k h [] g e =
      let same : h ≡ g = cc in
      record { now = sym (ap (λ (f : HistoryOf I R). f.now) same); earlier = sym (ap (λ (f : HistoryOf I R). f.earlier) same) }
  undone-back k h (x ∷ xs) g e =
      undo-by k h x xs g (after_action rules h.now x) refl (λ f m. undone-back (suc k) f xs m)
      (sym (ap (judged_from rules k h) (one-more x xs)) ∙ e)

  -- undos, and a redo for each
  abbrev pub undos_redone : ℕ → List (RequestOf X)
  undos_redone n = replicate n Undo ++ replicate n Redo

  one-more-redone : (n : ℕ) → undos_redone (suc n) ≡ Undo ∷ (undos_redone n ++ Redo ∷ [])
  one-more-redone n =
      ap (λ l. Undo ∷ (replicate n Undo ++ l)) (last-apart n Redo)
      ∙ ap (λ l. Undo ∷ l) (joined (replicate n Undo) (replicate n Redo) (Redo ∷ []))

  redo-by : (k n : ℕ) (earlier : List (VersionOf I R)) (now : VersionOf I R) (later : List (VersionOf I R)) (g : HistoryOf I R) →
      ((f m : HistoryOf I R) → judged_from rules (suc k) f (undos_redone n) ≡ Ok m → m ≡ f) →
      judged_from rules k (record { earlier = earlier; now = now; later = later }) (Undo ∷ (undos_redone n ++ Redo ∷ [])) ≡ Ok g → g ≡ record { earlier = earlier; now = now; later = later }
  redo-by k n [] now later g ih e = absurd (cc)
  redo-by k n (v ∷ vs) now later g ih e =
      let f : HistoryOf I R = record { earlier = vs; now = v; later = now ∷ later } in
      let parts = in-parts (suc k) f (undos_redone n) (Redo ∷ []) g e in
      let back : judged_from rules (suc k + length (undos_redone n)) f (Redo ∷ []) ≡ Ok g =
      subst (λ m. judged_from rules (suc k + length (undos_redone n)) m (Redo ∷ []) ≡ Ok g) (ih f parts.between parts.front_accepted) parts.back_accepted in
      let same : record { earlier = v ∷ vs; now = now; later = later } ≡ g = cc in
      sym same

  redone-back : (k n : ℕ) (h g : HistoryOf I R) → judged_from rules k h (undos_redone n) ≡ Ok g → g ≡ h
  redone-back k zero h g e =
      let same : h ≡ g = cc in
      sym same
  redone-back k (suc n) h g e =
      redo-by k n h.earlier h.now h.later g (λ f m. redone-back (suc k) n f m) (sym (ap (judged_from rules k h) (one-more-redone n)) ∙ e)

  -- the script without its end is accepted, with the same version
  pub record IsAcceptedSo (i : I) (script : List (RequestOf X)) (g : HistoryOf I R) : Type 0 where
    pub history : HistoryOf I R
    pub accepted : verdict rules i script ≡ Ok history
    pub now : g.now ≡ history.now

  pub undo-end : (i : I) (script : List (RequestOf X)) (xs : List X) (g : HistoryOf I R) → verdict rules i (script ++ (map (λ x. Perform x) xs ++ replicate (length xs) Undo)) ≡ Ok g → IsAcceptedSo i script g
  undo-end i script xs g e =
      let parts = in-parts 1 _ script (actions_undone xs) g e in
      record { history = parts.between; accepted = parts.front_accepted; now = (undone-back (1 + length script) parts.between xs g parts.back_accepted).now }

  pub redo-end : (i : I) (script : List (RequestOf X)) (n : ℕ) (g : HistoryOf I R) → verdict rules i (script ++ (replicate n Undo ++ replicate n Redo)) ≡ Ok g → IsAcceptedSo i script g
  redo-end i script n g e =
      let parts = in-parts 1 _ script (undos_redone n) g e in
      record { history = parts.between; accepted = parts.front_accepted; now = ap (λ (f : HistoryOf I R). f.now) (redone-back (1 + length script) n parts.between g parts.back_accepted) }
