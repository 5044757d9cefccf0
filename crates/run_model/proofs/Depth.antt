-- Depth never runs out before ticks do: with depth enough for the ticks the evaluator is a fixed point.
use Rattle.std.proofs.Common.{◌≡◌, ℕ, zero, suc, ◌+◌, ◌*◌, ◌-◌, ◌<◌, ◌≤◌, List, refl, sym, ap, ◌∙◌, subst, arith}
use Rattle.std.specs.Prelude.{Bool, true, false, if◌then◌else◌, nat_eq, nat_le}
use Rattle.std.proofs.lemmas.Bool.{leb-true}
use Rattle.tree_model.specs.Tree.{TreeOf, StatementsOf, no_statements, more_statements, SequenceOf}
use Rattle.image_model.specs.Image.{ImageOf}
use Rattle.run_model.specs.Values.{Name, Value, nil_value, spent}
use Rattle.run_model.specs.Store.{Frame, Store, start, returns, ends_by, out_of_ticks, Result, fine, leaves, with_new_cells}
use Rattle.run_model.specs.Acts.{Act, then_do, gives, fails, goes_home, and_then, with_memory, tells, pays, acts, ended, out_of_home, at_home}
use Rattle.run_model.specs.Eval.{Task, node, turn, Evaluator, statements, does_turn, does_node, step, eval, evaluates}
use Rattle.run_model.specs.Runs.{comes_to, comes_to_at_last, IsWithin, outcome_of, seen, run_to, run, IsWithin}
use Rattle.run_model.proofs.Congruence.{IsCongruence}
use Rattle.run_model.proofs.Congruence

-- two results are one, and within b
pub record IsSame {A : Type 0} (b : ℕ) (x x' : Result A) : Type 0 where
  pub eq : x ≡ x'
  pub within : IsWithin b x

-- two acts come to the same with fewer ticks than b
abbrev Agree : ℕ → (A : Type 0) → Act A → Act A → Type 0
Agree b A m m' = (s : Store) → s.ticks < b → IsSame b (m s) (m' s)

-- below a greater number too
within-wider : {A : Type 0} (b c : ℕ) (x : Result A) → b ≤ c → IsWithin b x → IsWithin c x
within-wider b c (fine a s) le w = omega arith
within-wider b c (leaves (returns h v) s) le w = omega arith
within-wider b c (leaves (ends_by e) s) le w = w
within-wider b c (leaves out_of_ticks s) le w = w

-- the same below a greater number
wider : {A : Type 0} (b c : ℕ) (x x' : Result A) → b ≤ c → IsSame b x x' → IsSame c x x'
wider b c x x' le p = record { eq = p.eq; within = within-wider b c x le p.within }

-- going on from the same
then-same : {A B : Type 0} (b : ℕ) (x x' : Result A) (go go' : A → Act B) → IsSame b x x' → ((a : A) (s : Store) → s.ticks < b → IsSame b (go a s) (go' a s)) → IsSame b (then_do x go) (then_do x' go')
then-same b (fine a s) x' go go' p f = subst (λ y. IsSame b (go a s) (then_do y go')) p.eq (f a s p.within)
then-same b (leaves (returns h v) s) x' go go' p f = record { eq = ap (λ y. then_do y go') p.eq; within = p.within }
then-same b (leaves (ends_by e) s) x' go go' p f = record { eq = ap (λ y. then_do y go') p.eq; within = p.within }
then-same b (leaves out_of_ticks s) x' go go' p f = record { eq = ap (λ y. then_do y go') p.eq; within = p.within }

-- what pays leaves
paid-within : {A : Type 0} (b n : ℕ) (a : A) (s : Store) (c : Bool) → s.ticks < b → IsWithin b (if c then fine a (record s { ticks = s.ticks - n }) else leaves out_of_ticks (record s { ticks = 0 }))
paid-within b n a s true l = omega arith
paid-within b n a s false l = refl

-- what comes out of a home
home-within : (b h : ℕ) (x : Result Value) → IsWithin b x → IsWithin b (out_of_home h x)
home-within b h (fine v s) w = w
home-within b h (leaves (returns k v) s) w = by (nat_eq k h)
  where
    by : (c : Bool) → IsWithin b (if c then fine v (ended h s) else leaves (returns k v) (ended h s))
    by true = w
    by false = w
home-within b h (leaves (ends_by e) s) w = w
home-within b h (leaves out_of_ticks s) w = w

-- each operation comes to the same with itself
agrees : (b : ℕ) → IsCongruence acts acts (Agree b)
unfolding gives fails goes_home and_then with_memory tells pays at_home
agrees b = record {
  given = λ A a s l. record { eq = refl; within = l };
  failed = λ A e s l. record { eq = refl; within = tt };
  returned = λ A h v s l. record { eq = refl; within = l };
  chained = λ A B m m' go go' p q s l. then-same b (m s) (m' s) go go' (p s l) (λ a s1 l1. q a s1 l1);
  remembered = λ A f s l. record { eq = refl; within = l };
  told = λ A e a s l. record { eq = refl; within = l };
  paid = λ A n a s l. record { eq = refl; within = paid-within b n a s (nat_le n s.ticks) l };
  homed = λ h m m' p s l. record { eq = ap (out_of_home h) (p s l).eq; within = home-within b h (m s) (p s l).within };
}

-- two evaluators come to the same at nodes with at most n ticks, and then fewer are left
abbrev Nodes : ℕ → Evaluator acts → Evaluator acts → Type 0
Nodes n go go' = (f : Frame) (t : TreeOf Name) (s : Store) → s.ticks ≤ n → IsSame s.ticks (go (node f t) s) (go' (node f t) s)

-- the same at turns of loops with fewer than n ticks
abbrev Turns : ℕ → Evaluator acts → Evaluator acts → Type 0
Turns n go go' = (f : Frame) (sense : Bool) (a b : SequenceOf Name) (s : Store) → s.ticks < n → IsSame s.ticks (go (turn f sense a b) s) (go' (turn f sense a b) s)

-- nodes agree below n
nodes-agree : (n : ℕ) (go go' : Evaluator acts) → Nodes n go go' → (f : Frame) (t : TreeOf Name) → Agree n Value (go (node f t)) (go' (node f t))
nodes-agree n go go' nodes f t s l = wider s.ticks n _ _ (omega arith) (nodes f t s (omega arith))

-- statements, of which the first takes a tick
first-same : (n : ℕ) (go go' : Evaluator acts) → Nodes n go go' → (f : Frame) (t : TreeOf Name) (ss : StatementsOf Name) (s : Store) → s.ticks ≡ n →
    IsSame n (then_do (go (node f t) s) (λ w. statements acts go f w ss)) (then_do (go' (node f t) s) (λ w. statements acts go' f w ss))
first-same n go go' nodes f t ss s l =
    then-same n _ _ _ _ (wider s.ticks n _ _ (omega arith) (nodes f t s (omega arith)))
    (λ w s1 l1. Congruence.statements-Rel acts acts (Agree n) (agrees n) go go' (nodes-agree n go go' nodes) f w ss s1 l1)

-- a turn: where its test gave a value it took a tick
turn-same : (n : ℕ) (go go' : Evaluator acts) → Nodes n go go' → Turns n go go' → (f : Frame) (sense : Bool) (ts : List Name) (ss : StatementsOf Name) (e : List (List ℕ)) (b : SequenceOf Name) (s : Store) → s.ticks ≡ n →
    IsSame n (does_turn acts go f sense (record { temporaries = ts; statements = ss; tail = e }) b s) (does_turn acts go' f sense (record { temporaries = ts; statements = ss; tail = e }) b s)
unfolding gives fails and_then with_memory
turn-same n go go' nodes turns f true ts no_statements e b s l = record { eq = refl; within = tt }
turn-same n go go' nodes turns f false ts no_statements e b s l = record { eq = refl; within = tt }
turn-same n go go' nodes turns f sense ts (more_statements c t ss) e b s l =
    then-same n _ _ _ _ (first-same n go go' nodes _ t ss (record s { memory = with_new_cells s.memory ts }) l)
    (λ v s1 l1. Congruence.goes_on-Rel acts acts (Agree n) (agrees n) sense v _ _
    (λ s2 l2. (agrees n).chained _ _ _ _ _ _ (Congruence.in_place-Rel acts acts (Agree n) (agrees n) go go' (nodes-agree n go go' nodes) f b)
    (λ w s3 l3. wider s3.ticks n _ _ (omega arith) (turns f sense (record { temporaries = ts; statements = more_statements c t ss; tail = e }) b s3 l3)) s2 l2) s1 l1)

-- a step at a node takes a tick first
node-same : (i : ImageOf Name) (n : ℕ) (go go' : Evaluator acts) → ((f : Frame) (t : TreeOf Name) → Agree n Value (go (node f t)) (go' (node f t))) → ((f : Frame) (sense : Bool) (a b : SequenceOf Name) → Agree n Value (go (turn f sense a b)) (go' (turn f sense a b))) →
    (f : Frame) (t : TreeOf Name) (s : Store) → s.ticks ≡ n → IsSame n (step acts i go (node f t) s) (step acts i go' (node f t) s)
unfolding and_then pays
node-same i n go go' nodes turns f t s l = by (nat_le 1 s.ticks) refl
  where
    by : (c : Bool) → nat_le 1 s.ticks ≡ c →
        IsSame n (then_do (if c then fine nil_value (record s { ticks = s.ticks - 1 }) else leaves out_of_ticks (record s { ticks = 0 })) (λ w. does_node acts i go f t))
        (then_do (if c then fine nil_value (record s { ticks = s.ticks - 1 }) else leaves out_of_ticks (record s { ticks = 0 })) (λ w. does_node acts i go' f t))
    by true e = Congruence.does_node-Rel acts acts (Agree n) (agrees n) go go' nodes i turns f t (record s { ticks = s.ticks - 1 }) (let h = leb-true 1 s.ticks e in omega arith)
    by false e = record { eq = refl; within = refl }

-- with depth enough for n ticks more depth changes nothing
pub record IsDeep (i : ImageOf Name) (n : ℕ) : Type 0 where
  pub nodes : (d d' : ℕ) (f : Frame) (t : TreeOf Name) (s : Store) → s.ticks ≤ n → 2 * n + 1 ≤ d → 2 * n + 1 ≤ d' → IsSame s.ticks (eval acts i d (node f t) s) (eval acts i d' (node f t) s)
  pub turns : (d d' : ℕ) (f : Frame) (sense : Bool) (a b : SequenceOf Name) (s : Store) → s.ticks ≤ n → 2 * n + 2 ≤ d → 2 * n + 2 ≤ d' → IsSame s.ticks (eval acts i d (turn f sense a b) s) (eval acts i d' (turn f sense a b) s)

-- at a node, if it is so with fewer ticks
deep-node : (i : ImageOf Name) (n : ℕ) → ((m : ℕ) → m < n → IsDeep i m) → (d d' : ℕ) (f : Frame) (t : TreeOf Name) (s : Store) → s.ticks ≤ n → 2 * n + 1 ≤ d → 2 * n + 1 ≤ d' → IsSame s.ticks (eval acts i d (node f t) s) (eval acts i d' (node f t) s)
deep-node i n ih zero d' f t s l h h' = absurd (omega arith)
deep-node i n ih (suc d) zero f t s l h h' = absurd (omega arith)
deep-node i n ih (suc d) (suc d') f t s l h h' =
    node-same i s.ticks (eval acts i d) (eval acts i d')
    (λ f2 t2 s2 l2. wider s2.ticks s.ticks _ _ (omega arith) ((ih s2.ticks (omega arith)).nodes d d' f2 t2 s2 (omega arith) (omega arith) (omega arith)))
    (λ f2 sense a b s2 l2. wider s2.ticks s.ticks _ _ (omega arith) ((ih s2.ticks (omega arith)).turns d d' f2 sense a b s2 (omega arith) (omega arith) (omega arith))) f t s refl

-- at a turn, if it is so with fewer ticks
deep-turn : (i : ImageOf Name) (n : ℕ) → ((m : ℕ) → m < n → IsDeep i m) → (d d' : ℕ) (f : Frame) (sense : Bool) (a b : SequenceOf Name) (s : Store) → s.ticks ≤ n → 2 * n + 2 ≤ d → 2 * n + 2 ≤ d' → IsSame s.ticks (eval acts i d (turn f sense a b) s) (eval acts i d' (turn f sense a b) s)
deep-turn i n ih zero d' f sense a b s l h h' = absurd (omega arith)
deep-turn i n ih (suc d) zero f sense a b s l h h' = absurd (omega arith)
deep-turn i n ih (suc d) (suc d') f sense a b s l h h' =
    turn-same s.ticks (eval acts i d) (eval acts i d')
    (λ f2 t2 s2 l2. deep-node i n ih d d' f2 t2 s2 (omega arith) (omega arith) (omega arith))
    (λ f2 sense2 a2 b2 s2 l2. (ih s2.ticks (omega arith)).turns d d' f2 sense2 a2 b2 s2 (omega arith) (omega arith) (omega arith)) f sense a.temporaries a.statements a.tail b s refl

-- with fewer than n ticks
deep-below : (i : ImageOf Name) (n m : ℕ) → m < n → IsDeep i m
deep-below i zero m l = absurd (omega arith)
deep-below i (suc n) m l = record { nodes = deep-node i m (λ k h. deep-below i n k (omega arith)); turns = deep-turn i m (λ k h. deep-below i n k (omega arith)) }

-- with any number of ticks
pub deep : (i : ImageOf Name) (n : ℕ) → IsDeep i n
deep i n = deep-below i (n + 1) n (omega arith)

-- do-its with depth enough
comes_to-deep : (i : ImageOf Name) (n d : ℕ) → 2 * n + 2 ≤ d → IsSame (n + 1) (comes_to i (2 * n + 2) n) (comes_to i d n)
comes_to-deep i n d le =
    Congruence.does_doits-Rel acts acts (Agree (n + 1)) (agrees (n + 1)) (eval acts i (2 * n + 2)) (eval acts i d)
    (λ f t s l. wider s.ticks (n + 1) _ _ (omega arith) ((deep i s.ticks).nodes (2 * n + 2) d f t s (omega arith) (omega arith) (omega arith))) i nil_value i.doits (start n) (omega arith)

-- a run with more depth is the same
pub run-deep : (i : ImageOf Name) (n d : ℕ) → 2 * n + 2 ≤ d → run_to i d n ≡ run i n
unfolding run
run-deep i n d le = ap (seen n) (sym (comes_to-deep i n d le).eq)

-- a run that is spent took all its ticks
seen-spent : (b n : ℕ) (x : Result Value) → IsWithin b x → outcome_of x ≡ spent → (seen n x).ticks ≡ n
seen-spent b n (fine v s) w e = cc
seen-spent b n (leaves (returns h v) s) w e = cc
seen-spent b n (leaves (ends_by x) s) w e = cc
seen-spent b n (leaves out_of_ticks s) w e = omega arith

-- the run with n ticks took n where it is spent
pub run-spent : (i : ImageOf Name) (n : ℕ) → (run i n).outcome ≡ spent → (run i n).ticks ≡ n
unfolding run
run-spent i n e = seen-spent (n + 1) n (comes_to i (2 * n + 2) n) (comes_to-deep i n (2 * n + 2) (omega arith)).within e

-- the evaluator with depth enough is one step of itself
pub evaluates-step : (i : ImageOf Name) (t : Task) (s : Store) → evaluates i t s ≡ step acts i (evaluates i) t s
unfolding evaluates
evaluates-step i (node f t) s =
    let e : 2 * s.ticks + 2 ≡ suc (2 * s.ticks + 1) = omega arith in
    ap (λ d. eval acts i d (node f t) s) e
    ∙ (node-same i s.ticks (eval acts i (2 * s.ticks + 1)) (evaluates i)
    (λ f2 t2 s2 l2. wider s2.ticks s.ticks _ _ (omega arith) ((deep i s2.ticks).nodes (2 * s.ticks + 1) (2 * s2.ticks + 2) f2 t2 s2 (omega arith) (omega arith) (omega arith)))
    (λ f2 sense a b s2 l2. wider s2.ticks s.ticks _ _ (omega arith) ((deep i s2.ticks).turns (2 * s.ticks + 1) (2 * s2.ticks + 2) f2 sense a b s2 (omega arith) (omega arith) (omega arith))) f t s refl).eq
evaluates-step i (turn f sense a b) s =
    let e : 2 * s.ticks + 2 ≡ suc (2 * s.ticks + 1) = omega arith in
    ap (λ d. eval acts i d (turn f sense a b) s) e
    ∙ (turn-same s.ticks (eval acts i (2 * s.ticks + 1)) (evaluates i)
    (λ f2 t2 s2 l2. (deep i s2.ticks).nodes (2 * s.ticks + 1) (2 * s2.ticks + 2) f2 t2 s2 (omega arith) (omega arith) (omega arith))
    (λ f2 sense2 a2 b2 s2 l2. (deep i s2.ticks).turns (2 * s.ticks + 1) (2 * s2.ticks + 2) f2 sense2 a2 b2 s2 (omega arith) (omega arith) (omega arith)) f sense a.temporaries a.statements a.tail b s refl).eq

-- a run by it
pub run-evaluates : (i : ImageOf Name) (n : ℕ) → run i n ≡ seen n (comes_to_at_last i n)
unfolding run evaluates
run-evaluates i n = ap (seen n) h.eq
  where
    h : IsSame (n + 1) (comes_to i (2 * n + 2) n) (comes_to_at_last i n)
    h = Congruence.does_doits-Rel acts acts (Agree (n + 1)) (agrees (n + 1)) (eval acts i (2 * n + 2)) (evaluates i)
        (λ f t s l. wider s.ticks (n + 1) _ _ (omega arith) ((deep i s.ticks).nodes (2 * n + 2) (2 * s.ticks + 2) f t s (omega arith) (omega arith) (omega arith))) i nil_value i.doits (start n) (omega arith)

-- evaluation leaves no more ticks than there were, and fewer where a node gave a value; it is spent only where none is left
pub evaluates-within : (i : ImageOf Name) (t : Task) (s : Store) → IsWithin s.ticks (evaluates i t s)
unfolding evaluates
evaluates-within i (node f t) s = ((deep i s.ticks).nodes (2 * s.ticks + 2) (2 * s.ticks + 2) f t s (omega arith) (omega arith) (omega arith)).within
evaluates-within i (turn f sense a b) s = ((deep i s.ticks).turns (2 * s.ticks + 2) (2 * s.ticks + 2) f sense a b s (omega arith) (omega arith) (omega arith)).within
