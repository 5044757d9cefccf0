-- The trace of a run, cut at its ticks, is the run.
use Rattle.std.proofs.Common.{◌≡◌, ℕ, ◌+◌, ◌*◌, ◌-◌, List, [], ◌∷◌, ◌++◌, refl, sym, ap, subst}
use Rattle.std.specs.Prelude.{Bool, true, false, if◌then◌else◌, nat_eq, nat_le}
use Rattle.image_model.specs.Image.{ImageOf}
use Rattle.run_model.specs.Values.{Name, Value, Event}
use Rattle.run_model.specs.Store.{Memory, Store, start, returns, ends_by, out_of_ticks, Result, fine, leaves, no_memory, without_home}
use Rattle.run_model.specs.Acts.{Act, acts, then_do, gives, fails, goes_home, and_then, with_memory, tells, pays, at_home, stops, ended, out_of_home}
use Rattle.run_model.specs.Runs.{comes_to, seen, run_to, run}
use Rattle.trace_model.specs.Traces.{Step, wants, told, End, gave, returned, failed_by, stopped, Trace, goes_on_from, end_of_home, traces, ended_with, cut_at, cut, trace_of}
use Rattle.run_model.proofs.Congruence.{IsCongruence}
use Rattle.run_model.proofs.Congruence

-- two results are one, but for the memory where no ticks are left
abbrev IsAlike : {A : Type 0} → Result A → Result A → Type 0
IsAlike (fine a s) r = r ≡ fine a s
IsAlike (leaves (returns h v) s) r = r ≡ leaves (returns h v) s
IsAlike (leaves (ends_by e) s) r = r ≡ leaves (ends_by e) s
IsAlike {A} (leaves out_of_ticks s) r = (m : Memory) × (r ≡ leaves out_of_ticks (record s { memory = m }))

-- an act and a trace of it
abbrev IsTraced : (A : Type 0) → Act A → (Memory → Trace A) → Type 0
IsTraced A act trace = (s : Store) → IsAlike (act s) (cut s.ticks s.events (trace s.memory))

-- what follows in a trace that was cut
abbrev then_cut : {A B : Type 0} → (A → Memory → Trace B) → A → Store → Result B
then_cut go a s = cut s.ticks s.events (go a s.memory)

-- by a condition, for both results
if-then_do : {A B : Type 0} (b : Bool) (x y : Result A) (go : A → Act B) (x' y' : Result B) → x' ≡ then_do x go → y' ≡ then_do y go → (if b then x' else y') ≡ then_do (if b then x else y) go
if-then_do true x y go x' y' p q = p
if-then_do false x y go x' y' p q = q

-- going on in a trace and then cutting it is cutting it and then going on
cut-goes_on : {A B : Type 0} (n : ℕ) (es : List Event) (ss : List Step) (e : End A) (go : A → Memory → Trace B) → cut n es (goes_on_from ss e go) ≡ then_do (cut_at n es ss e) (then_cut go)
cut-goes_on n es [] (gave a m) go = refl
cut-goes_on n es [] (returned h v m) go = refl
cut-goes_on n es [] (failed_by x m) go = refl
cut-goes_on n es [] (stopped m) go = refl
cut-goes_on n es (told x ∷ ss) (gave a m) go = cut-goes_on n (es ++ x ∷ []) ss (gave a m) go
cut-goes_on n es (told x ∷ ss) (returned h v m) go = cut-goes_on n (es ++ x ∷ []) ss (returned h v m) go
cut-goes_on n es (told x ∷ ss) (failed_by y m) go = cut-goes_on n (es ++ x ∷ []) ss (failed_by y m) go
cut-goes_on n es (told x ∷ ss) (stopped m) go = cut-goes_on n (es ++ x ∷ []) ss (stopped m) go
cut-goes_on n es (wants k ∷ ss) (gave a m) go = if-then_do (nat_le k n) _ _ _ _ _ (cut-goes_on (n - k) es ss (gave a m) go) refl
cut-goes_on n es (wants k ∷ ss) (returned h v m) go = if-then_do (nat_le k n) _ _ _ _ _ (cut-goes_on (n - k) es ss (returned h v m) go) refl
cut-goes_on n es (wants k ∷ ss) (failed_by y m) go = if-then_do (nat_le k n) _ _ _ _ _ (cut-goes_on (n - k) es ss (failed_by y m) go) refl
cut-goes_on n es (wants k ∷ ss) (stopped m) go = if-then_do (nat_le k n) _ _ _ _ _ (cut-goes_on (n - k) es ss (stopped m) go) refl

-- going on from results that are alike
then-alike : {A B : Type 0} (x y : Result A) (go go' : A → Act B) → IsAlike x y → ((a : A) (s : Store) → IsAlike (go a s) (go' a s)) → IsAlike (then_do x go) (then_do y go')
then-alike (fine a s) y go go' p f = subst (λ r. IsAlike (go a s) (then_do r go')) (sym p) (f a s)
then-alike (leaves (returns h v) s) y go go' p f = ap (λ r. then_do r go') p
then-alike (leaves (ends_by e) s) y go go' p f = ap (λ r. then_do r go') p
then-alike (leaves out_of_ticks s) y go go' p f = (p.0, ap (λ r. then_do r go') p.1)

-- what comes out of a home by a condition
if-out_of_home : (h : ℕ) (b : Bool) (x y x' y' : Result Value) → x' ≡ out_of_home h x → y' ≡ out_of_home h y → (if b then x' else y') ≡ out_of_home h (if b then x else y)
if-out_of_home h true x y x' y' p q = p
if-out_of_home h false x y x' y' p q = q

-- the end of a home that a return may go to
end-returned : (n : ℕ) (es : List Event) (h : ℕ) (v : Value) (m : Memory) (k : ℕ) (b : Bool) →
    ended_with n es (if b then gave v (without_home m h) else returned k v (without_home m h))
    ≡ (if b then fine v (ended h (record { memory = m; events = es; ticks = n })) else leaves (returns k v) (ended h (record { memory = m; events = es; ticks = n })))
end-returned n es h v m k true = refl
end-returned n es h v m k false = refl

-- a home that ends in a trace
pub cut-home : (n : ℕ) (es : List Event) (ss : List Step) (e : End Value) (h : ℕ) → cut_at n es ss (end_of_home h e) ≡ out_of_home h (cut_at n es ss e)
cut-home n es [] (gave v m) h = refl
cut-home n es [] (returned k v m) h = end-returned n es h v m k (nat_eq k h)
cut-home n es [] (failed_by x m) h = refl
cut-home n es [] (stopped m) h = refl
cut-home n es (told x ∷ ss) e h = cut-home n (es ++ x ∷ []) ss e h
cut-home n es (wants k ∷ ss) e h = if-out_of_home h (nat_le k n) _ _ _ _ (cut-home (n - k) es ss e h) refl

-- a home that a return may leave, in results that are alike
home-alike_by : (h k : ℕ) (v : Value) (s : Store) (b : Bool) →
    IsAlike (if b then fine v (ended h s) else leaves (returns k v) (ended h s)) (if b then fine v (ended h s) else leaves (returns k v) (ended h s))
home-alike_by h k v s true = refl
home-alike_by h k v s false = refl

-- what comes out of a home is alike
home-alike : (h : ℕ) (x y : Result Value) → IsAlike x y → IsAlike (out_of_home h x) (out_of_home h y)
home-alike h (fine v s) y p = ap (out_of_home h) p
home-alike h (leaves (returns k v) s) y p = subst (λ r. IsAlike (out_of_home h (leaves (returns k v) s)) (out_of_home h r)) (sym p) (home-alike_by h k v s (nat_eq k h))
home-alike h (leaves (ends_by e) s) y p = ap (out_of_home h) p
home-alike h (leaves out_of_ticks s) y p = (p.0, ap (out_of_home h) p.1)

-- ticks that are wanted
paid-alike : {A : Type 0} (n : ℕ) (a : A) (s : Store) (b : Bool) →
    IsAlike (if b then fine a (record s { ticks = s.ticks - n }) else leaves out_of_ticks (record s { ticks = 0 }))
    (if b then fine a (record { memory = s.memory; events = s.events; ticks = s.ticks - n }) else leaves out_of_ticks (record { memory = no_memory; events = s.events; ticks = 0 }))
paid-alike n a s true = refl
paid-alike n a s false = (no_memory, refl)

-- each operation has its trace
traced : IsCongruence acts traces IsTraced
unfolding gives fails goes_home and_then with_memory tells pays at_home
traced = record {
  given = λ A a s. refl;
  failed = λ A e s. refl;
  returned = λ A h v s. refl;
  chained = λ A B m m' go go' p q s.
      subst (λ r. IsAlike (then_do (m s) go) r) (sym (cut-goes_on s.ticks s.events (m' s.memory).steps (m' s.memory).end go'))
      (then-alike (m s) _ go (then_cut go') (p s) (λ a s1. q a s1));
  remembered = λ A f s. refl;
  told = λ A e a s. refl;
  paid = λ A n a s. paid-alike n a s (nat_le n s.ticks);
  homed = λ h m m' p s.
      subst (λ r. IsAlike (out_of_home h (m s)) r) (sym (cut-home s.ticks s.events (m' s.memory).steps (m' s.memory).end h)) (home-alike h (m s) _ (p s));
}

-- want of depth has its trace
stops-traced : IsTraced Value acts.stops traces.stops
unfolding stops
stops-traced s = (s.memory, refl)

-- what is seen of results that are alike is one
seen-alike : (n : ℕ) (x y : Result Value) → IsAlike x y → seen n y ≡ seen n x
seen-alike n (fine v s) y p = ap (seen n) p
seen-alike n (leaves (returns h v) s) y p = ap (seen n) p
seen-alike n (leaves (ends_by e) s) y p = ap (seen n) p
seen-alike n (leaves out_of_ticks s) y p = ap (seen n) p.1

-- the trace with so much depth, cut at the ticks, is the run with this depth
pub run_to-trace : (i : ImageOf Name) (d n : ℕ) → seen n (cut n [] (trace_of i d)) ≡ run_to i d n
run_to-trace i d n = seen-alike n (comes_to i d n) _ (Congruence.does_all-Rel acts traces IsTraced traced stops-traced i d (start n))

-- so each run is a trace that was cut
pub run-trace : (i : ImageOf Name) (n : ℕ) → seen n (cut n [] (trace_of i (2 * n + 2))) ≡ run i n
unfolding run
run-trace i n = run_to-trace i (2 * n + 2) n
