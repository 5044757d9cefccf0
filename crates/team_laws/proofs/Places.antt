-- Who is open and who is late, in terms of the places of a log.
use Rattle.std.proofs.Common.{◌≡◌, ◌≢◌, ◌⊎◌, inl, inr, ℕ, Bool, true, false, ◌&&◌, ◌||◌, IsTrue, if◌then◌else◌, List, [], ◌∷◌, ◌++◌, Option, Some, None, refl, sym, ap, subst, ◌∙◌, append_assoc, true≢false}
use Rattle.std.specs.List.{list_any, AllByRecursion}
use Rattle.std.specs.Option.{option_map}
use Rattle.std.proofs.Math.Dec.{eqb}
use Rattle.std.proofs.lemmas.Bool.Decides.{eqb_tells}
use Rattle.std.proofs.lemmas.List.{append-nil}
use Rattle.std.proofs.lemmas.List.Folds.{list_any-append}
use Rattle.std.proofs.lemmas.Option.{none-some}
use Rattle.team_core.specs.declared.entry.Entry.{Entry}
use Rattle.team_core.specs.declared.entry.Stand.{Stand}
use Rattle.team_core.specs.declared.entry.Stand.TheVariants.{Idle, Fresh, Late}
use Rattle.team_core.specs.Journal.{is_mover, since_then, since_from, since, opens, closes, standing, standing_by}
use Rattle.team_laws.specs.Words.{LeavesOpen, IsOpenSince, HasMover, IsLate}

-- the session was open with these events, and stayed so
record Kept (s : ℕ) (was : Option (List Entry)) (log between : List Entry) : Type 0 where
  first : List Entry
  was_open : was ≡ Some first
  joined : between ≡ first ++ log
  left : AllByRecursion (LeavesOpen s) log

-- the events that do not open or close the session leave it open
goes-on : (s : ℕ) (es : List Entry) (w : List Entry) → AllByRecursion (LeavesOpen s) es → since_from s (Some w) es ≡ Some (w ++ es)
goes-on s [] w h = ap Some (sym (append-nil w))
goes-on s (e ∷ es) w h = ap (λ o. since_from s o es) (by (eqb_tells s e.session)) ∙ goes-on s es (w ++ e ∷ []) h.1 ∙ ap Some (append_assoc w (e ∷ []) es)
  where
    by : ((eqb s e.session ≡ true) × (s ≡ e.session)) ⊎ ((eqb s e.session ≡ false) × (s ≢ e.session)) → since_then s (Some w) e ≡ Some (w ++ e ∷ [])
    by (inl same) =
        let l = h.0 same.1 in
        λ i. if same.0 i && l.0 i then Some [] else if same.0 i && l.1 i then None else Some (w ++ e ∷ [])
    by (inr other) = λ i. if other.0 i && opens e then Some [] else if other.0 i && closes e then None else Some (w ++ e ∷ [])

since_from-append : (s : ℕ) (was : Option (List Entry)) (xs ys : List Entry) → since_from s was (xs ++ ys) ≡ since_from s (since_from s was xs) ys
since_from-append s was [] ys = refl
since_from-append s was (x ∷ xs) ys = since_from-append s (since_then s was x) xs ys

begins : (s : ℕ) (was : Option (List Entry)) (b : Entry) → s ≡ b.session → IsTrue (opens b) → since_then s was b ≡ Some []
begins s was b own o = by (eqb_tells s b.session)
  where
    by : ((eqb s b.session ≡ true) × (s ≡ b.session)) ⊎ ((eqb s b.session ≡ false) × (s ≢ b.session)) → since_then s was b ≡ Some []
    by (inl same) = λ i. if same.0 i && o i then Some [] else if same.0 i && closes b then None else option_map (λ es. es ++ b ∷ []) was
    by (inr other) = absurd (other.1 own)

pub open-from : (s : ℕ) (log between : List Entry) → IsOpenSince s log between → since s log ≡ Some between
open-from s log between h =
    ap (since s) h.splits ∙ since_from-append s None h.before (h.begin ∷ between) ∙ ap (λ o. since_from s o between) (begins s (since s h.before) h.begin h.own h.opened) ∙ goes-on s between [] h.still

-- one event: it opens the session, or the session was open before and stays so
step : (s : ℕ) (was : Option (List Entry)) (e : Entry) (w : List Entry) → since_then s was e ≡ Some w →
    ((s ≡ e.session) × IsTrue (opens e) × (w ≡ [])) ⊎ ((v : List Entry) × (was ≡ Some v) × (w ≡ v ++ e ∷ []) × LeavesOpen s e)
step s was e w h = by (eqb_tells s e.session)
  where
    others : (o : Option (List Entry)) → option_map (λ es. es ++ e ∷ []) o ≡ Some w → LeavesOpen s e → (v : List Entry) × (o ≡ Some v) × (w ≡ v ++ e ∷ []) × LeavesOpen s e
    others None q l = absurd (none-some w q)
    others (Some v) q l = (v, refl, sym (ap (λ o. elim o [ None ↦ w | Some y ↦ y ]) q), l)

    own : s ≡ e.session → (a c : Bool) → opens e ≡ a → closes e ≡ c → (if a then Some [] else if c then None else option_map (λ es. es ++ e ∷ []) was) ≡ Some w →
        ((s ≡ e.session) × IsTrue (opens e) × (w ≡ [])) ⊎ ((v : List Entry) × (was ≡ Some v) × (w ≡ v ++ e ∷ []) × LeavesOpen s e)
    own same true c p q k = inl (same, p, sym (ap (λ o. elim o [ None ↦ w | Some y ↦ y ]) k))
    own same false true p q k = absurd (none-some w k)
    own same false false p q k = inr (others was k (λ _. (p, q)))

    by : ((eqb s e.session ≡ true) × (s ≡ e.session)) ⊎ ((eqb s e.session ≡ false) × (s ≢ e.session)) →
        ((s ≡ e.session) × IsTrue (opens e) × (w ≡ [])) ⊎ ((v : List Entry) × (was ≡ Some v) × (w ≡ v ++ e ∷ []) × LeavesOpen s e)
    by (inl same) = own same.1 (opens e) (closes e) refl refl ((λ i. if sym same.0 i && opens e then Some [] else if sym same.0 i && closes e then None else option_map (λ es. es ++ e ∷ []) was) ∙ h)
    by (inr other) = inr (others was ((λ i. if sym other.0 i && opens e then Some [] else if sym other.0 i && closes e then None else option_map (λ es. es ++ e ∷ []) was) ∙ h) (λ q. absurd (other.1 q)))

found : (s : ℕ) (was : Option (List Entry)) (log between : List Entry) → since_from s was log ≡ Some between → IsOpenSince s log between ⊎ Kept s was log between
found s was [] between h = inr (record { first = between; was_open = h; joined = sym (append-nil between); left = tt })
found s was (e ∷ es) between h = by (found s (since_then s was e) es between h)
  where
    later : (k : Kept s (since_then s was e) es between) → ((s ≡ e.session) × IsTrue (opens e) × (k.first ≡ [])) ⊎ ((v : List Entry) × (was ≡ Some v) × (k.first ≡ v ++ e ∷ []) × LeavesOpen s e) →
        IsOpenSince s (e ∷ es) between ⊎ Kept s was (e ∷ es) between
    later k (inl (own, opened, empty)) =
        let rest : es ≡ between = sym (k.joined ∙ ap (λ (xs : List Entry). xs ++ es) empty) in
        inl (record { before = []; begin = e; splits = ap (λ (xs : List Entry). e ∷ xs) rest; own = own; opened = opened; still = subst (AllByRecursion (LeavesOpen s)) rest k.left })
    later k (inr (v, was_open, more, leaves)) = inr (record {
      first = v;
      was_open = was_open;
      joined = k.joined ∙ ap (λ (xs : List Entry). xs ++ es) more ∙ append_assoc v (e ∷ []) es;
      left = (leaves, k.left);
    })

    by : IsOpenSince s es between ⊎ Kept s (since_then s was e) es between → IsOpenSince s (e ∷ es) between ⊎ Kept s was (e ∷ es) between
    by (inl o) = inl (record { before = e ∷ o.before; begin = o.begin; splits = ap (λ (xs : List Entry). e ∷ xs) o.splits; own = o.own; opened = o.opened; still = o.still })
    by (inr k) = later k (step s was e k.first k.was_open)

pub open-to : (s : ℕ) (log between : List Entry) → since s log ≡ Some between → IsOpenSince s log between
open-to s log between h = by (found s None log between h)
  where
    by : IsOpenSince s log between ⊎ Kept s None log between → IsOpenSince s log between
    by (inl o) = o
    by (inr k) = absurd (none-some k.first k.was_open)

mover-found : (es : List Entry) → list_any is_mover es ≡ true → HasMover es
mover-found [] h = absurd (true≢false (sym h))
mover-found (e ∷ es) h = by (is_mover e) refl (mover-found es)
  where
    by : (b : Bool) → is_mover e ≡ b → (list_any is_mover es ≡ true → HasMover es) → HasMover (e ∷ es)
    by true p more = record { before = []; mover = e; after = es; splits = refl; moves = p }
    by false p more =
        let m = more (sym (ap (λ b. b || list_any is_mover es) p) ∙ h) in
        record { before = e ∷ m.before; mover = m.mover; after = m.after; splits = ap (λ (xs : List Entry). e ∷ xs) m.splits; moves = m.moves }

or_true : (b : Bool) → (b || true) ≡ true
or_true true = refl
or_true false = refl

mover-counts : (es : List Entry) → HasMover es → list_any is_mover es ≡ true
mover-counts es m = ap (list_any is_mover) m.splits ∙ list_any-append is_mover m.before (m.mover ∷ m.after) ∙ ap (λ b. list_any is_mover m.before || (b || list_any is_mover m.after)) m.moves ∙ or_true (list_any is_mover m.before)

is_late : Stand → Bool
is_late Idle = false
is_late Fresh = false
is_late Late = true

pub late-to : (s : ℕ) (log : List Entry) → standing s log ≡ Late → IsLate s log
unfolding is_late
late-to s log h = by (since s log) refl h
  where
    by : (o : Option (List Entry)) → since s log ≡ o → standing_by o ≡ Late → IsLate s log
    by None e q = absurd (true≢false (sym (ap is_late q)))
    by (Some es) e q = (es, open-to s log es e, mover-found es (moved (list_any is_mover es) q))
      where
        moved : (b : Bool) → (if b then Late else Fresh) ≡ Late → b ≡ true
        moved true k = refl
        moved false k = absurd (true≢false (sym (ap is_late k)))

pub late-from : (s : ℕ) (log : List Entry) → IsLate s log → standing s log ≡ Late
late-from s log (between, o, m) = ap standing_by (open-from s log between o) ∙ ap (λ b. if b then Late else Fresh) (mover-counts between m)
