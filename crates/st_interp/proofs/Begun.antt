-- Nodes, turns of loops, and the end of the ticks.
use Rattle.std.proofs.Common.{◌≡◌, ℕ, ◌<◌, List, [], ◌∷◌, ◌++◌, refl, sym, ap, ◌∙◌, arith, length}
use Rattle.std.specs.Prelude.{Option, Bool, true, false, if◌then◌else◌}
use Rattle.std.specs.Prelude.{nat_le, map, ◌-◌}
use Rattle.std.proofs.Common.{Bor, Global}
use Rattle.std.proofs.lemmas.Bool.{le-leb}
use Rattle.std.specs.declared.rc.Rc.{Rc}
use Rattle.image_model.proofs.Lists.{length-map}
use Rattle.run_model.proofs.Depth.{evaluates-step}
use Rattle.tree_model.specs.Tree.{TreeOf, TreesOf, SequenceOf, no_statements}
use Rattle.rb_base.specs.Names.{name_at}
use Rattle.image_model.specs.Image.{ImageOf}
use Rattle.run_model.specs.Values.{Name, Value, nil_value, closure_value, non_boolean, cannot_return}
use Rattle.run_model.specs.Shapes as run
use Rattle.st_meaning.specs.declared.context.Context.{Context}
use Rattle.st_meaning.specs.declared.store.Store as rust
use Rattle.st_meaning.specs.declared.store.Closure as rust_closure
use Rattle.run_model.specs.Store.{Frame, Store, Result, fine, leaves, returns, ends_by, out_of_ticks, lives, with_new_cells, with_closure, with_home}
use Rattle.run_model.specs.Acts.{then_do, gives, fails, and_then, with_memory, pays, goes_home, at_home, out_of_home, acts}
use Rattle.run_model.specs.Eval.{Evaluator, node, turn, in_place, makes_closure, chooses, takes, goes_on, sends, does_send, does_node, does_turn, returns_home, values, statements, sequence, inside, held, in_cells, outermost, evaluates}
use Rattle.st_meaning.specs.StoreView.{closure_of, store_of, changed_by}
use Rattle.st_interp.specs.declared.state.Pending.{Pending}
use Rattle.st_interp.specs.declared.state.Pending.TheVariants as pending
use Rattle.st_interp.specs.Trees.{texts_at, tree_at, trees_at, statements_at, sequence_at}
use Rattle.st_interp.specs.Shapes.{branch_from, shape_from}
use Rattle.st_interp.specs.declared.state.Branch.{Branch}
use Rattle.st_interp.specs.declared.state.Loop.{Loop}
use Rattle.st_interp.specs.declared.state.Machine.{Machine}
use Rattle.st_interp.specs.declared.state.Next.{Next}
use Rattle.st_interp.specs.declared.state.Ending.{Ending}
use Rattle.st_interp.specs.declared.state.Ending.TheVariants as ending
use Rattle.st_interp.specs.declared.shape.Shape.{Shape}
use Rattle.st_interp.specs.declared.shape.Shape.TheVariants as shape
use Rattle.st_interp.specs.Machine.{ended, returned, runs_doit, turns, tested, resume, plug, next_of, rest, next_load}
use Rattle.st_interp.proofs.Plug.{plug_pushed, plug_empty}

-- what comes after an ending
pub rest_after : (i : ImageOf Name) (names : List Name) (m : Machine) (e : Ending) → rest i names m (next_of e) ≡ plug i names m.stack.items (ended e (store_of names m.store))
rest_after i names m (ending.Value v) = refl
rest_after i names m (ending.Exit e) = refl

pub load_after : (e : Ending) → next_load (next_of e) ≡ 4
load_after (ending.Value v) = refl
load_after (ending.Exit e) = refl

-- a closure that was made
pub closure_made : (i : ImageOf Name) (names : List Name) (ks : List Pending) (v : Value) (cs : List rust_closure.Closure) (c : rust_closure.Closure) (ps : List Name) (b : SequenceOf Name) (f : Frame) (s s' : Store) → v ≡ closure_value (length cs) → s.memory.closures ≡ map (closure_of names) cs → s' ≡ changed_by (λ m. with_closure m (closure_of names c)) s → closure_of names c ≡ record { parameters = ps; body = b; frame = f }
    → plug i names ks (fine v s') ≡ plug i names ks (makes_closure acts ps b f s)
unfolding with_memory
closure_made i names ks v cs c ps b f s s' e q n w =
    λ j. plug i names ks (fine ((e ∙ ap closure_value (sym (length-map (closure_of names) cs) ∙ ap length (sym q))) j) ((n ∙ ap (λ z. changed_by (λ m. with_closure m z) s) w) j))

-- a turn of a loop, once its test is waited for
pub turn_begun : (i : ImageOf Name) (names : List Name) (ks js : List Pending) (l : Loop) (c : Rc Context Global) (f g : Frame) (s : Store) → js ≡ ks ++ pending.Tested l c ∷ [] → f ≡ c.value → g ≡ c.value
    → plug i names js (in_place acts (evaluates i) f (sequence_at names l.test.now) s) ≡ plug i names ks (turns i names g l s)
unfolding and_then
turn_begun i names ks js l c f g s e q w =
    plug_pushed i names ks js (pending.Tested l c) _ _ e refl
    ∙ (λ j. plug i names ks (then_do (in_place acts (evaluates i) (q j) (sequence_at names l.test.now) s) (λ v. tested i names c.value l v)))
    ∙ ap (plug i names ks) (sym (evaluates-step i (turn c.value l.sense (sequence_at names l.test.now) (sequence_at names l.body.now)) s))
    ∙ ap (λ z. plug i names ks (turns i names z l s)) (sym w)

-- a test without statements is no Boolean
turn_none : (go : Evaluator acts) (f : Frame) (sense : Bool) (a b : SequenceOf Name) (s : Store) → a.statements ≡ no_statements → does_turn acts go f sense a b s ≡ leaves (ends_by non_boolean) (changed_by (λ m. with_new_cells m a.temporaries) s)
unfolding and_then with_memory gives fails
turn_none go f sense a b s e = ap (λ z. then_do (statements acts go (inside f (held [] [] ++ in_cells a.temporaries (length s.memory.cells))) nil_value z (changed_by (λ m. with_new_cells m a.temporaries) s)) (λ v. goes_on acts sense v (and_then (in_place acts go f b) (λ u. go (turn f sense a b))))) e ∙ by sense
  where
    by : (c : Bool) → goes_on acts c nil_value (and_then (in_place acts go f b) (λ u. go (turn f sense a b))) (changed_by (λ m. with_new_cells m a.temporaries) s) ≡ leaves (ends_by non_boolean) (changed_by (λ m. with_new_cells m a.temporaries) s)
    by true = refl
    by false = refl

pub turn_empty : (i : ImageOf Name) (names : List Name) (ks : List Pending) (l : Loop) (f : Frame) (s s' : Store) → l.test.now.statements ≡ [] → s' ≡ changed_by (λ m. with_new_cells m (texts_at names l.test.now.temporaries)) s
    → plug i names ks (leaves (ends_by non_boolean) s') ≡ plug i names ks (turns i names f l s)
turn_empty i names ks l f s s' e q =
    ap (λ z. plug i names ks (leaves (ends_by non_boolean) z)) q
    ∙ ap (plug i names ks) (sym (evaluates-step i (turn f l.sense (sequence_at names l.test.now) (sequence_at names l.body.now)) s ∙ turn_none (evaluates i) f l.sense (sequence_at names l.test.now) (sequence_at names l.body.now) s (ap (statements_at names) e)))

-- sends, by their shapes
pub two_ways_begun : (i : ImageOf Name) (names : List Name) (ks : List Pending) (a b : Branch) (c : Rc Context Global) (f : Frame) (r : TreeOf Name) (n : Name) (args : TreesOf Name) (h : Shape) (sh : run.Shape) (s : Store) → c.value ≡ f → h ≡ shape.TwoWays a b → shape_from names h ≡ sh
    → plug i names ks (resume i names (pending.Branch a b c) (evaluates i (node f r) s)) ≡ plug i names ks (does_send acts i (evaluates i) f r n args sh s)
unfolding and_then
two_ways_begun i names ks a b c f r n args h sh s q p w =
    (λ j. plug i names ks (then_do (evaluates i (node f r) s) (λ v. chooses acts v (takes acts (evaluates i) (q j) (branch_from names a)) (takes acts (evaluates i) (q j) (branch_from names b)))))
    ∙ ap (λ z. plug i names ks (does_send acts i (evaluates i) f r n args z s)) (sym (ap (shape_from names) p) ∙ w)

pub loop_begun : (i : ImageOf Name) (names : List Name) (ks : List Pending) (l : Loop) (f : Frame) (r : TreeOf Name) (n : Name) (args : TreesOf Name) (h : Shape) (sh : run.Shape) (s : Store) → h ≡ shape.Loops l → shape_from names h ≡ sh
    → plug i names ks (turns i names f l s) ≡ plug i names ks (does_send acts i (evaluates i) f r n args sh s)
loop_begun i names ks l f r n args h sh s p w = ap (λ z. plug i names ks (does_send acts i (evaluates i) f r n args z s)) (sym (ap (shape_from names) p) ∙ w)

pub message_begun : (i : ImageOf Name) (names : List Name) (ks : List Pending) (c : Rc Context Global) (f : Frame) (r : Bor (TreeOf ℕ)) (n : ℕ) (args : Bor (List (TreeOf ℕ))) (h : Shape) (sh : run.Shape) (s : Store) → c.value ≡ f → h ≡ shape.Message → shape_from names h ≡ sh
    → plug i names ks (resume i names (pending.Receiver r n args c) (evaluates i (node f (tree_at names r.now)) s)) ≡ plug i names ks (does_send acts i (evaluates i) f (tree_at names r.now) (name_at names n) (trees_at names args.now) sh s)
unfolding and_then
message_begun i names ks c f r n args h sh s q p w =
    (λ j. plug i names ks (then_do (evaluates i (node f (tree_at names r.now)) s) (λ v. and_then (values acts (evaluates i) (q j) (trees_at names args.now)) (λ vs. sends acts i (evaluates i) (q j) (tree_at names r.now) v (name_at names n) vs))))
    ∙ ap (λ z. plug i names ks (does_send acts i (evaluates i) f (tree_at names r.now) (name_at names n) (trees_at names args.now) z s)) (sym (ap (shape_from names) p) ∙ w)

-- nodes

pub node_ticked : (i : ImageOf Name) (names : List Name) (ks : List Pending) (f : Frame) (t : TreeOf Name) (s s' : rust.Store) → 0 < s.ticks → s' ≡ record s { ticks = s.ticks - 1 }
    → plug i names ks (does_node acts i (evaluates i) f t (store_of names s')) ≡ plug i names ks (evaluates i (node f t) (store_of names s))
unfolding and_then pays
node_ticked i names ks f t s s' l q =
    let b : nat_le 1 s.ticks ≡ true = le-leb 1 s.ticks (omega arith) in
    ap (λ z. plug i names ks (does_node acts i (evaluates i) f t (store_of names z))) q
    ∙ ap (λ z. plug i names ks (then_do (if z then fine nil_value (record (store_of names s) { ticks = s.ticks - 1 }) else leaves out_of_ticks (record (store_of names s) { ticks = 0 })) (λ u. does_node acts i (evaluates i) f t))) (sym b)
    ∙ ap (plug i names ks) (sym (evaluates-step i (node f t) (store_of names s)))

spent : (i : ImageOf Name) (f : Frame) (t : TreeOf Name) (s : Store) → s.ticks ≡ 0 → leaves out_of_ticks s ≡ evaluates i (node f t) s
unfolding and_then pays
spent i f t s e =
    ap (λ z. leaves out_of_ticks (record s { ticks = z })) e
    ∙ ap (λ z. then_do (if nat_le 1 z then fine nil_value (record s { ticks = s.ticks - 1 }) else leaves out_of_ticks (record s { ticks = 0 })) (λ u. does_node acts i (evaluates i) f t)) (sym e)
    ∙ sym (evaluates-step i (node f t) s)

resume_spent : (i : ImageOf Name) (names : List Name) (k : Pending) (s : Store) → resume i names k (leaves out_of_ticks s) ≡ leaves out_of_ticks s
resume_spent i names (pending.Receiver n x args c) s = refl
resume_spent i names (pending.Arguments p done left c) s = refl
resume_spent i names (pending.Assign x c) s = refl
resume_spent i names (pending.Return c) s = refl
resume_spent i names (pending.Cascade ms c) s = refl
resume_spent i names (pending.Cascaded v ms c) s = refl
resume_spent i names (pending.Sequence left c) s = refl
resume_spent i names (pending.Answer v) s = refl
resume_spent i names (pending.Home h) s = refl
resume_spent i names (pending.Branch a b c) s = refl
resume_spent i names (pending.Tested l c) s = refl
resume_spent i names (pending.Turned l c) s = refl

pub plug_spent : (i : ImageOf Name) (names : List Name) (ks : List Pending) (s : Store) → plug i names ks (leaves out_of_ticks s) ≡ leaves out_of_ticks s
unfolding plug
plug_spent i names [] s = refl
plug_spent i names (k ∷ ks) s = ap (resume i names k) (plug_spent i names ks s) ∙ resume_spent i names k s

pub out_of_ticks_at : (i : ImageOf Name) (names : List Name) (ks : List Pending) (f : Frame) (t : TreeOf Name) (s : Store) → s.ticks ≡ 0 → leaves out_of_ticks s ≡ plug i names ks (evaluates i (node f t) s)
out_of_ticks_at i names ks f t s e = sym (plug_spent i names ks s) ∙ ap (plug i names ks) (spent i f t s e)

-- an ending that the stack has to know
pub settled : (i : ImageOf Name) (names : List Name) (m : Machine) (n : Next) (e : Ending) (r : Result Value) → n ≡ next_of e → ended e (store_of names m.store) ≡ r → rest i names m n ≡ plug i names m.stack.items r
settled i names m n e r q h = ap (rest i names m) q ∙ rest_after i names m e ∙ ap (plug i names m.stack.items) h

-- a return to a home that lives
pub leave_alive : (i : ImageOf Name) (names : List Name) (ks : List Pending) (f : Frame) (v : Value) (h : ℕ) (b : Bool) (s : Store) → h ≡ f.home.number → b ≡ lives s.memory h → b ≡ true
    → plug i names ks (leaves (returns h v) s) ≡ plug i names ks (returned f v s)
unfolding and_then with_memory goes_home
leave_alive i names ks f v h b s e q p =
    ap (λ z. plug i names ks (leaves (returns z v) s)) e ∙ ap (λ z. plug i names ks (returns_home acts f v z s)) (sym p ∙ q ∙ ap (lives s.memory) e)

-- a return to a home that has ended
pub leave_dead : (i : ImageOf Name) (names : List Name) (ks : List Pending) (f : Frame) (v : Value) (h : ℕ) (b : Bool) (s : Store) → h ≡ f.home.number → b ≡ lives s.memory h → b ≡ false
    → plug i names ks (leaves (ends_by cannot_return) s) ≡ plug i names ks (returned f v s)
unfolding and_then with_memory fails
leave_dead i names ks f v h b s e q p = ap (λ z. plug i names ks (returns_home acts f v z s)) (sym p ∙ q ∙ ap (lives s.memory) e)

-- a do-it in its home
pub doit_begun : (i : ImageOf Name) (names : List Name) (ks js : List Pending) (c : Option Name) (v : Value) (h : ℕ) (f : Frame) (b : SequenceOf Name) (s s' : Store) → ks ≡ [] → js ≡ ks ++ pending.Home h ∷ [] → v ≡ nil_value → h ≡ length s.memory.homes → s' ≡ changed_by with_home s → f ≡ outermost c false v h
    → plug i names js (in_place acts (evaluates i) f b s') ≡ runs_doit i c b s
unfolding and_then with_memory at_home
doit_begun i names ks js c v h f b s s' o e z n r g =
    plug_pushed i names ks js (pending.Home h) _ _ e refl
    ∙ (λ j. plug i names (o j) (out_of_home (n j) (sequence acts (evaluates i) (at j) [] [] b (r j))))
    ∙ plug_empty i names _
  where
    at : f ≡ outermost c false nil_value (length s.memory.homes)
    at = g ∙ (λ j. outermost c false (z j) (n j))
