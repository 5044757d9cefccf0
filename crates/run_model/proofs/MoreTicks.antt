-- What a run has done it has done with more ticks and more depth too.
use Rattle.std.proofs.Common.{◌≡◌, ℕ, zero, suc, ◌+◌, ◌*◌, ◌-◌, ◌≤◌, List, [], ◌∷◌, ◌++◌, refl, sym, ap, ◌∙◌, subst, arith, append_assoc}
use Rattle.std.specs.Prelude.{Bool, true, false, if◌then◌else◌, nat_eq, nat_le, IsTrue}
use Rattle.std.proofs.lemmas.List.{append-nil}
use Rattle.std.proofs.lemmas.Bool.{leb-true, le-leb, false≢true}
use Rattle.image_model.specs.Image.{ImageOf}
use Rattle.run_model.specs.Values.{Name, Value, nil_value, Event, failed}
use Rattle.run_model.specs.Store.{Store, start, returns, ends_by, out_of_ticks, Result, fine, leaves}
use Rattle.run_model.specs.Acts.{Act, then_do, gives, fails, goes_home, and_then, with_memory, tells, pays, stops, acts, ended, out_of_home, at_home}
use Rattle.run_model.specs.Eval.{Task, eval}
use Rattle.run_model.specs.Runs.{does_doits, comes_to, store_of, outcome_of, seen, run, has_ended}
use Rattle.run_model.specs.Prefixes.{IsPrefixOf}
use Rattle.run_model.proofs.Congruence.{IsCongruence}
use Rattle.run_model.proofs.Congruence

-- the store with so many ticks more
abbrev later : ℕ → Store → Store
later k s = record s { ticks = s.ticks + k }

-- events of a result
abbrev events_of : {A : Type 0} → Result A → List Event
events_of r = (store_of r).events

-- a result is the same in a later store, and of one without ticks the events are a prefix
abbrev IsSameLater : {A : Type 0} → ℕ → Result A → Result A → Type 0
IsSameLater k (fine a s) r = r ≡ fine a (later k s)
IsSameLater k (leaves (returns h v) s) r = r ≡ leaves (returns h v) (later k s)
IsSameLater k (leaves (ends_by e) s) r = r ≡ leaves (ends_by e) (later k s)
IsSameLater k (leaves out_of_ticks s) r = IsPrefixOf s.events (events_of r)

-- the second act does in a later store what the first does, and only adds events
record IsExtension (k : ℕ) (A : Type 0) (m m' : Act A) : Type 0 where
  same : (s : Store) → IsSameLater k (m s) (m' (later k s))
  grows : (s : Store) → IsPrefixOf s.events (events_of (m' s))

-- a list begins with itself
same-prefix : (es : List Event) → IsPrefixOf es es
same-prefix es = ([], append-nil es)

-- a prefix of a prefix
prefix-trans : (xs ys zs : List Event) → IsPrefixOf xs ys → IsPrefixOf ys zs → IsPrefixOf xs zs
prefix-trans xs ys zs p q = (p.0 ++ q.0, sym (append_assoc xs p.0 q.0) ∙ ap (λ l. l ++ q.0) p.1 ∙ q.1)

-- going on only adds events
then-grows : {A B : Type 0} (es : List Event) (x : Result A) (go : A → Act B) → IsPrefixOf es (events_of x) → ((a : A) (s : Store) → IsPrefixOf s.events (events_of (go a s))) → IsPrefixOf es (events_of (then_do x go))
then-grows es (fine a s) go p f = prefix-trans es s.events _ p (f a s)
then-grows es (leaves x s) go p f = p

-- going on does later what it does
then-same : {A B : Type 0} (k : ℕ) (x x' : Result A) (go go' : A → Act B) → IsSameLater k x x' → ((a : A) (s : Store) → IsSameLater k (go a s) (go' a (later k s))) → ((a : A) (s : Store) → IsPrefixOf s.events (events_of (go' a s))) → IsSameLater k (then_do x go) (then_do x' go')
then-same k (fine a s) x' go go' p f g = subst (λ y. IsSameLater k (go a s) (then_do y go')) (sym p) (f a s)
then-same k (leaves (returns h v) s) x' go go' p f g = ap (λ y. then_do y go') p
then-same k (leaves (ends_by e) s) x' go go' p f g = ap (λ y. then_do y go') p
then-same k (leaves out_of_ticks s) x' go go' p f g = then-grows s.events x' go' p g

-- what pays does, by whether there are ticks
paid-grows : {A : Type 0} (b : Bool) (n : ℕ) (a : A) (s : Store) → IsPrefixOf s.events (events_of (if b then fine a (record s { ticks = s.ticks - n }) else leaves out_of_ticks (record s { ticks = 0 })))
paid-grows true n a s = same-prefix s.events
paid-grows false n a s = same-prefix s.events

-- where there are ticks there are later
paid-later : {A : Type 0} (k n : ℕ) (a : A) (s : Store) (b b' : Bool) → nat_le n s.ticks ≡ b → nat_le n (s.ticks + k) ≡ b' →
    IsSameLater k (if b then fine a (record s { ticks = s.ticks - n }) else leaves out_of_ticks (record s { ticks = 0 }))
    (if b' then fine a (record s { ticks = s.ticks + k - n }) else leaves out_of_ticks (record s { ticks = 0 }))
paid-later k n a s true true p q = let h = leb-true n s.ticks p in let e : s.ticks + k - n ≡ s.ticks - n + k = omega arith in ap (λ t. fine a (record s { ticks = t })) e
paid-later k n a s true false p q = absurd (false≢true (sym q ∙ le-leb n (s.ticks + k) (let h = leb-true n s.ticks p in omega arith)))
paid-later k n a s false b' p q = paid-grows b' n a (later k s)

-- a home that ends only adds events
home-grows : (es : List Event) (h : ℕ) (x : Result Value) → IsPrefixOf es (events_of x) → IsPrefixOf es (events_of (out_of_home h x))
home-grows es h (fine v s) p = p
home-grows es h (leaves (returns k v) s) p = by (nat_eq k h)
  where
    by : (b : Bool) → IsPrefixOf es (events_of (if b then fine v (ended h s) else leaves (returns k v) (ended h s)))
    by true = p
    by false = p
home-grows es h (leaves (ends_by e) s) p = p
home-grows es h (leaves out_of_ticks s) p = p

-- what comes out of a home comes out later
home-same : (k h : ℕ) (x x' : Result Value) → IsSameLater k x x' → IsSameLater k (out_of_home h x) (out_of_home h x')
home-same k h (fine v s) x' p = ap (out_of_home h) p
home-same k h (leaves (returns j v) s) x' p = subst (λ y. IsSameLater k (out_of_home h (leaves (returns j v) s)) (out_of_home h y)) (sym p) (by (nat_eq j h))
  where
    by : (b : Bool) → IsSameLater k (if b then fine v (ended h s) else leaves (returns j v) (ended h s)) (if b then fine v (ended h (later k s)) else leaves (returns j v) (ended h (later k s)))
    by true = refl
    by false = refl
home-same k h (leaves (ends_by e) s) x' p = ap (out_of_home h) p
home-same k h (leaves out_of_ticks s) x' p = home-grows s.events h x' p

-- each operation does later what it does
extends : (k : ℕ) → IsCongruence acts acts (IsExtension k)
unfolding gives fails goes_home and_then with_memory tells pays at_home
extends k = record {
  given = λ A a. record { same = λ s. refl; grows = λ s. same-prefix s.events };
  failed = λ A e. record { same = λ s. refl; grows = λ s. same-prefix s.events };
  returned = λ A h v. record { same = λ s. refl; grows = λ s. same-prefix s.events };
  chained = λ A B m m' go go' p q. record {
    same = λ s. then-same k (m s) (m' (later k s)) go go' (p.same s) (λ a s1. (q a).same s1) (λ a s1. (q a).grows s1);
    grows = λ s. then-grows s.events (m' s) go' (p.grows s) (λ a s1. (q a).grows s1);
  };
  remembered = λ A f. record { same = λ s. refl; grows = λ s. same-prefix s.events };
  told = λ A e a. record { same = λ s. refl; grows = λ s. (e ∷ [], refl) };
  paid = λ A n a. record { same = λ s. paid-later k n a s _ _ refl refl; grows = λ s. paid-grows (nat_le n s.ticks) n a s };
  homed = λ h m m' p. record { same = λ s. home-same k h (m s) (m' (later k s)) (p.same s); grows = λ s. home-grows s.events h (m' s) (p.grows s) };
}

-- with the same depth
eval-same_depth : (i : ImageOf Name) (k d : ℕ) (t : Task) → IsExtension k Value (eval acts i d t) (eval acts i d t)
unfolding stops
eval-same_depth i k d t = Congruence.eval-Rel acts acts (IsExtension k) (extends k) (record { same = λ s. same-prefix s.events; grows = λ s. same-prefix s.events }) i d t

-- with more depth
eval-extends : (i : ImageOf Name) (k d e : ℕ) → d ≤ e → (t : Task) → IsExtension k Value (eval acts i d t) (eval acts i e t)
unfolding stops
eval-extends i k zero e le t =
    let g = eval-same_depth i k e t in record { same = λ s. g.grows (later k s); grows = g.grows }
eval-extends i k (suc d) zero le t = absurd (omega arith)
eval-extends i k (suc d) (suc e) le t =
    Congruence.step-Rel acts acts (IsExtension k) (extends k) (eval acts i d) (eval acts i e) (λ f n. eval-extends i k d e (omega arith) _) i (λ f sense a b. eval-extends i k d e (omega arith) _) t

-- do-its with more depth and more ticks
comes_to-extends : (i : ImageOf Name) (d e n m : ℕ) → d ≤ e → n ≤ m → IsSameLater (m - n) (comes_to i d n) (comes_to i e m)
comes_to-extends i d e n m le lt =
    let g = Congruence.does_doits-Rel acts acts (IsExtension (m - n)) (extends (m - n)) (eval acts i d) (eval acts i e) (λ f t. eval-extends i (m - n) d e le _) i nil_value i.doits in
    let h : n + (m - n) ≡ m = omega arith in
    subst (λ x. IsSameLater (m - n) (comes_to i d n) (does_doits acts i (eval acts i e) nil_value i.doits (start x))) h (g.same (start n))

-- a run that has ended is the same
seen-ended : (n m : ℕ) (x x' : Result Value) → n ≤ m → IsSameLater (m - n) x x' → IsTrue (has_ended (outcome_of x)) → seen m x' ≡ seen n x
seen-ended n m (fine v s) x' le p e = ap (seen m) p ∙ (let eq : m - (s.ticks + (m - n)) ≡ n - s.ticks = omega arith in ap (λ t. record { events = s.events; outcome = outcome_of (fine v s); ticks = t }) eq)
seen-ended n m (leaves (returns h v) s) x' le p e = ap (seen m) p ∙ (let eq : m - (s.ticks + (m - n)) ≡ n - s.ticks = omega arith in ap (λ t. record { events = s.events; outcome = outcome_of (leaves (returns h v) s); ticks = t }) eq)
seen-ended n m (leaves (ends_by x) s) x' le p e = ap (seen m) p ∙ (let eq : m - (s.ticks + (m - n)) ≡ n - s.ticks = omega arith in ap (λ t. record { events = s.events; outcome = failed x; ticks = t }) eq)
seen-ended n m (leaves out_of_ticks s) x' le p e = absurd (false≢true e)

-- the events of a run are a prefix
seen-prefix : (k : ℕ) (x x' : Result Value) → IsSameLater k x x' → IsPrefixOf (events_of x) (events_of x')
seen-prefix k (fine v s) x' p = subst (λ y. IsPrefixOf s.events (events_of y)) (sym p) (same-prefix s.events)
seen-prefix k (leaves (returns h v) s) x' p = subst (λ y. IsPrefixOf s.events (events_of y)) (sym p) (same-prefix s.events)
seen-prefix k (leaves (ends_by e) s) x' p = subst (λ y. IsPrefixOf s.events (events_of y)) (sym p) (same-prefix s.events)
seen-prefix k (leaves out_of_ticks s) x' p = p

-- a run that has ended is the same with more ticks
pub run-ended : (i : ImageOf Name) (n m : ℕ) → n ≤ m → IsTrue (has_ended ((run i n).outcome)) → run i m ≡ run i n
unfolding run
run-ended i n m le e = seen-ended n m (comes_to i (2 * n + 2) n) (comes_to i (2 * m + 2) m) le (comes_to-extends i (2 * n + 2) (2 * m + 2) n m (omega arith) le) e

-- the events of a run are a prefix of those with more ticks
pub run-prefix : (i : ImageOf Name) (n m : ℕ) → n ≤ m → IsPrefixOf ((run i n).events) ((run i m).events)
unfolding run
run-prefix i n m le = seen-prefix (m - n) (comes_to i (2 * n + 2) n) (comes_to i (2 * m + 2) m) (comes_to-extends i (2 * n + 2) (2 * m + 2) n m (omega arith) le)
