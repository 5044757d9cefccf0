-- One step before and one after, where the parts below do so: the walk over all nodes.
use Rattle.unfolded_calls.specs.Unfolding.{with_local, UnfoldsFirst}
use Rattle.unfolded_calls.proofs.Dropped.{DropsFrom}
use Rattle.resolved_traces.specs.ResolvedTraces.{goes_on_traced}
use Rattle.std.proofs.Common.{◌≤◌, suc}
use Rattle.std.proofs.Common.{◌≡◌, ℕ, zero, suc, List, [], length, Option, Some, None, refl, sym, ap, ◌∙◌, subst}
use Rattle.std.specs.Prelude.{Bool, true, false, if◌then◌else◌, nat_lt, slice_get, option_map, codes}
use Rattle.std.proofs.lemmas.Bool.{false≢true}
use Rattle.std.proofs.lemmas.Option.{get_or_from_slice_get}
use Rattle.rb_base.specs.Names.{text_eq}
use Rattle.tree_model.specs.Tree.{LiteralOf, number, str, symbol, char, array, bytes, word, LiteralsOf, no_literals, more_literals}
use Rattle.run_model.specs.Values.{Name, Value, nil_value, true_value, false_value, int_value, char_value, string_value, symbol_value, class_value, object_value, array_value, closure_value, transcript_value, undeclared_name, not_assignable, reflective, unsupported}
use Rattle.run_model.specs.Store.{Binding, holds, in_cell, Memory, value_of, same_pair, field_of, with_field, class_side_of, with_class_side, value_in_cell, with_cell}
use Rattle.run_model.specs.Numbers.{numeral_integer}
use Rattle.run_model.specs.Eval.{gives_integer, literal_value, literal_values, makes_new_array, chooses, goes_on, makes_brace}
use Rattle.trace_model.specs.Traces.{Step, gave, stopped, traces}
use Rattle.resolved_traces.specs.WholeTraces.{told_in}
use Rattle.resolved_model.specs.ResolvedTrees.{Reference, of_word, of_local, of_instance_variable, of_class_side_variable, of_class_variable, of_named_class, of_transcript, of_nothing, Target, to_temporary, to_instance_variable, to_class_side_variable, to_class_variable, to_fixed, to_nothing, ResolvedTree, reading, sending, assigning, ResolvedTrees, ResolvedStatements, ResolvedCode}
use Rattle.resolved_model.specs.ResolvedImages.{ResolvedImage}
use Rattle.resolved_model.specs.ResolvedActs.{ResolvedFrame, ResolvedClosure}
use Rattle.resolved_model.specs.ResolvedEval.{at_node, at_turn, reads_super, ResolvedEvaluator, reads_local, reads_reference, assigns_local, assigns_target, lines, does_resolved}
use Rattle.resolved_traces.specs.ResolvedTraces.{TracedAct, traced, then_traced, resolved_traces}
use Rattle.unfolded_calls.specs.Unfolding.{StandIn, an_argument, a_temporary, a_steady, a_far, a_lent, a_dropped, a_nothing, IsRead, IsFixed, a_self, a_nil, a_true, a_false, a_number, a_string, a_symbol, a_char, a_class, stand_in, Context, opened, IsOuter, IsOuterTarget, Actuals, UnfoldsBody, IsPlace, Actual, Unfolds, same_local, same_reading, same_constant, same_message, same_choice, same_loop, same_cascade, same_temporary, same_steady, same_assignment, same_block, same_brace, same_return, unfolded_value, unfolded_setter, UnfoldsCode, IsUnfolded}
use Rattle.unfolded_calls.proofs.Pairings.{IsPaired}
use Rattle.unfolded_calls.proofs.Worlds.{World, Onward, onward-at_once, constant_value, Stands, as_argument, as_temporary, as_steady, as_far, as_lent, as_dropped, as_nothing, Has, has_value, has_settled, IsSettled, forth, as_constant, AllStand, none_stands, next_stands, FrameAlike, Linked}
use Rattle.unfolded_calls.proofs.Following.{Follows, Given, Same, both_give, Sim, weaker, then-sim, gives-sim, fails-sim, memory-sim}
use Rattle.unfolded_calls.proofs.Memories.{field-linked, side-linked, cell-linked, no-changes, array-changes, field-changes, side-changes, shared-changes, cell-changes}

-- the local at a place, and what stands in for it
pub data StandsAt (w : World) (locals : List Binding) (me : Value) (a : StandIn) : Option Binding → Type 0 where
  stands_at : {b : Binding} → Stands w locals me b a → StandsAt w locals me a (Some b)

pub stands-at : {w : World} {locals : List Binding} {me : Value} {bs : List Binding} {ss : List StandIn} → AllStand w locals me bs ss → (k : ℕ) (a : StandIn) → slice_get ss k ≡ Some a → StandsAt w locals me a (slice_get bs k)
stands-at none_stands k a e = absurd (cc)
stands-at {w} {locals} {me} (next_stands {b = b} {a = x} s r) zero a e = subst (λ y. StandsAt w locals me y (Some b)) (some e) (stands_at s)
  where
    some : Some x ≡ Some a → x ≡ a
    some q = cc
stands-at (next_stands s r) (suc k) a e = stands-at r k a e

module _ (i after : ResolvedImage) (u : IsUnfolded i after) (side : Bool) where
  -- acts that give the same value
  abbrev pub Sims : World → TracedAct Value → TracedAct Value → Type 0
  Sims w act act' = Sim i u.gone u.named side w Same act act'

  abbrev pub Frames : World → Context → ResolvedFrame → ResolvedFrame → Type 0
  Frames w g f f' = FrameAlike i u.gone u.named w g f f'

  abbrev pub Evaluator : Type 0
  Evaluator = ResolvedEvaluator resolved_traces

  -- the same value, which for `super` is that of self
  abbrev pub Known : ResolvedFrame → ResolvedTree → Given Value Value
  Known f t w a b = (a ≡ b) × (reads_super t ≡ true → a ≡ f.me)

  -- any value
  abbrev pub Anything : Given Value Value
  Anything w a b = Unit {0}

  -- the value of a stand-in that is the same from then on
  pub data FixedValue (locals : List Binding) (me : Value) (x : Value) : StandIn → Type 0 where
    fixed_argument : (j : ℕ) → slice_get locals j ≡ Some (holds x) → FixedValue locals me x (an_argument j)
    fixed_constant : (a : StandIn) → constant_value me a ≡ Some x → FixedValue locals me x a

  -- what an act before does that sets a temporary which is dropped: it stores a value, or it stops
  pub data Drops (act : TracedAct Value) (f' : ResolvedFrame) (a : StandIn) (c : ℕ) (cs : List ResolvedClosure) (m : Memory) : Type 0 where
    sets : (x : Value) (ss : List Step) → told_in ss ≡ [] → act cs m ≡ (record { steps = ss; end = gave x (with_cell m c x) }, cs) → FixedValue f'.locals f'.me x a → Drops act f' a c cs m
    ends_early : (ss : List Step) (n : Memory) (ds : List ResolvedClosure) → side ≡ true → told_in ss ≡ [] → act cs m ≡ (record { steps = ss; end = stopped n }, ds) → Drops act f' a c cs m

  -- the same value, in frames that are alike
  abbrev pub InFrame : Context → ResolvedFrame → ResolvedFrame → Given Value Value
  InFrame g f f' z a b = (a ≡ b) × Frames z g f f'

  -- an evaluator before and one after
  pub record Goes (go go' : Evaluator) : Type 0 where
    pub node : {w : World} {g : Context} {t t' : ResolvedTree} (f f' : ResolvedFrame) → Unfolds i u.gone g t t' → Frames w g f f' → Sim i u.gone u.named side w (Known f t) (go (at_node f t)) (go' (at_node f' t'))
    pub turn : {w : World} {g : Context} {a a' b b' : ResolvedCode} (f f' : ResolvedFrame) (sense : Bool) → UnfoldsCode i u.gone g a a' → UnfoldsCode i u.gone g b b' → Frames w g f f' → Sims w (go (at_turn f sense a b)) (go' (at_turn f' sense a' b'))
    pub run : {w : World} {g : Context} {s : Name} {args : ResolvedTrees} {body body' : ResolvedStatements} (f f' : ResolvedFrame) (x : Value) (actuals : List StandIn) (supers : Bool) →
        IsPlace i u.gone g s args (record { parameters = length actuals; temporaries = 0; statements = body }) supers → Actuals g args actuals → UnfoldsBody i u.gone (opened actuals supers) body body' → Frames w g f f' →
        Sim i u.gone u.named side w Anything (go (at_node f (sending (reading (of_word (codes "self"))) s args))) (lines resolved_traces go' f' x body')
    pub drops : {w : World} {g : Context} {t : ResolvedTree} {a : StandIn} (f f' : ResolvedFrame) (k c : ℕ) {cs cs' : List ResolvedClosure} {m m' : Memory} → Frames w g f f' → Actual g t a → IsFixed a → slice_get f.locals k ≡ Some (in_cell c) → Linked i u.gone u.named w cs m cs' m' →
        Drops (go (at_node f (assigning (to_temporary k) t))) f' a c cs m
    pub firsts : (w0 w : World) {g : Context} {e e' t t' : ResolvedTree} (f f' : ResolvedFrame) (k n : ℕ) → slice_get g.locals k ≡ Some a_dropped → Unfolds i u.gone g e e' → n ≤ u.gone.reach → UnfoldsFirst i u.gone (with_local k a_nothing g) k e' n t t' →
        Frames w g f f' → Onward w0 w → DropsFrom w0.cells.limit f.locals g.locals → (cs cs' : List ResolvedClosure) (m m' : Memory) → Linked i u.gone u.named w cs m cs' m' →
        Follows i u.gone u.named side (InFrame (with_local k a_nothing g) f f') w0
        (goes_on_traced (go (at_node f (assigning (to_temporary k) e)) cs m).0.steps (go (at_node f (assigning (to_temporary k) e)) cs m).0.end (go (at_node f (assigning (to_temporary k) e)) cs m).1 (λ y. go (at_node f t))) (go' (at_node f' t') cs' m')

  -- and then, with the same thing
  pub then-same : {A C D : Type 0} {Q : Given C D} {w : World} {act act' : TracedAct A} {go : A → TracedAct C} {go' : A → TracedAct D} →
      Sim i u.gone u.named side w Same act act' → ((v : World) (a : A) → Onward w v → Sim i u.gone u.named side v Q (go a) (go' a)) → Sim i u.gone u.named side w Q (then_traced act go) (then_traced act' go')
  then-same {Q = Q} {go = go} {go' = go'} p h = then-sim i u.gone u.named side Same p (λ v a b o r. subst (λ x. Sim i u.gone u.named side v Q (go a) (go' x)) r (h v a o))

  -- where only the value counts
  pub node-sim : {go go' : Evaluator} → Goes go go' → {w : World} {g : Context} {t t' : ResolvedTree} (f f' : ResolvedFrame) → Unfolds i u.gone g t t' → Frames w g f f' → Sims w (go (at_node f t)) (go' (at_node f' t'))
  node-sim goes f f' r a v cs cs' m m' o l = weaker i u.gone u.named side (λ w x y p. p.0) (goes.node f f' r a v cs cs' m m' o l)

  -- a value of no `super`
  pub unknown : {w : World} (x : Value) {act act' : TracedAct Value} → Sims w act act' → Sim i u.gone u.named side w (λ v a b. (a ≡ b) × (false ≡ true → a ≡ x)) act act'
  unknown x p v cs cs' m m' o l = weaker i u.gone u.named side (λ w a b e. (e, λ q. absurd (false≢true q))) (p v cs cs' m m' o l)

  pub same-value : {A : Type 0} {w : World} (a b : A) → a ≡ b → Sim i u.gone u.named side w Same (traced (traces.gives a)) (traced (traces.gives b))
  same-value a b e = gives-sim i u.gone u.named side a b (λ v o. e)

  pub if-sim : {A : Type 0} {R : Given A A} {w : World} (b : Bool) {x x' y y' : TracedAct A} → Sim i u.gone u.named side w R x x' → Sim i u.gone u.named side w R y y' → Sim i u.gone u.named side w R (if b then x else y) (if b then x' else y')
  if-sim true p q = p
  if-sim false p q = q

  -- reading in the memory
  pub looked : {A : Type 0} {w : World} (f f' : Memory → A) → ((v : World) (cs cs' : List ResolvedClosure) (m m' : Memory) → Onward w v → Linked i u.gone u.named v cs m cs' m' → f m ≡ f' m') → Sim i u.gone u.named side w Same (traced (traces.with_memory (λ m. (f m, m)))) (traced (traces.with_memory (λ m. (f' m, m))))
  looked f f' h = memory-sim i u.gone u.named side (λ m. (f m, m)) (λ m. (f' m, m)) (λ v cs cs' m m' o l. no-changes i u.gone u.named l (f m) (f' m') (h v cs cs' m m' o l))

  -- what is read outside the locals
  pub reads-sim : {w : World} {g : Context} (f f' : ResolvedFrame) (r : Reference) → IsOuter r → Frames w g f f' → Sims w (reads_reference resolved_traces f r) (reads_reference resolved_traces f' r)
  reads-sim f f' (of_word n) t a =
      if-sim (text_eq n (codes "nil")) (same-value _ _ refl)
      (if-sim (text_eq n (codes "true")) (same-value _ _ refl)
      (if-sim (text_eq n (codes "false")) (same-value _ _ refl)
      (if-sim (text_eq n (codes "thisContext")) (fails-sim i u.gone u.named side reflective) (same-value f.me f'.me a.me))))
  reads-sim f f' (of_local k) t a = absurd t
  reads-sim f f' (of_instance_variable n) t a = looked _ _ (λ v cs cs' m m' o l. field-linked i u.gone u.named l f.me n ∙ ap (λ x. field_of m' x n) a.me)
  reads-sim f f' (of_class_side_variable n) t a = looked _ _ (λ v cs cs' m m' o l. side-linked i u.gone u.named l f.me n ∙ ap (λ x. class_side_of m' x n) a.me)
  reads-sim f f' (of_class_variable c n) t a = looked _ _ (λ v cs cs' m m' o l. ap (λ es. value_of same_pair es (c, n)) l.shared)
  reads-sim f f' (of_named_class c) t a = same-value _ _ refl
  reads-sim f f' of_transcript t a = same-value _ _ refl
  reads-sim f f' (of_nothing n) t a = fails-sim i u.gone u.named side (undeclared_name n)

  -- a thing that is always the same, after
  pub constant-does : {w : World} {R : Given Value Value} (go' : Evaluator) (f' : ResolvedFrame) (x : Value) (a : StandIn) → constant_value f'.me a ≡ Some x → (act : TracedAct Value) → Sim i u.gone u.named side w R act (traced (traces.gives x)) → Sim i u.gone u.named side w R act (does_resolved resolved_traces after go' f' (stand_in a))
  constant-does go' f' x (an_argument k) e act p = absurd (cc)
  constant-does go' f' x (a_temporary k) e act p = absurd (cc)
  constant-does go' f' x (a_steady k) e act p = absurd (cc)
  constant-does go' f' x (a_far k) e act p = absurd (cc)
  constant-does go' f' x (a_lent k) e act p = absurd (cc)
  constant-does go' f' x a_dropped e act p = absurd (cc)
  constant-does go' f' x a_nothing e act p = absurd (cc)
  constant-does {w} {R} go' f' x a_self e act p = subst (λ y. Sim i u.gone u.named side w R act (traced (traces.gives y))) (sym (same e)) p
    where
      same : Some f'.me ≡ Some x → f'.me ≡ x
      same q = cc
  constant-does {w} {R} go' f' x a_nil e act p = subst (λ y. Sim i u.gone u.named side w R act (traced (traces.gives y))) (sym (same e)) p
    where
      same : Some nil_value ≡ Some x → nil_value ≡ x
      same q = cc
  constant-does {w} {R} go' f' x a_true e act p = subst (λ y. Sim i u.gone u.named side w R act (traced (traces.gives y))) (sym (same e)) p
    where
      same : Some true_value ≡ Some x → true_value ≡ x
      same q = cc
  constant-does {w} {R} go' f' x a_false e act p = subst (λ y. Sim i u.gone u.named side w R act (traced (traces.gives y))) (sym (same e)) p
    where
      same : Some false_value ≡ Some x → false_value ≡ x
      same q = cc
  constant-does {w} {R} go' f' x (a_number t) e act p = by (numeral_integer t) e
    where
      same : (z : _) → Some (int_value z) ≡ Some x → int_value z ≡ x
      same z q = cc

      by : (o : Option _) → option_map int_value o ≡ Some x → Sim i u.gone u.named side w R act (gives_integer resolved_traces.plain o)
      by (Some z) e = subst (λ y. Sim i u.gone u.named side w R act (traced (traces.gives y))) (sym (same z e)) p
      by None e = absurd (cc)
  constant-does {w} {R} go' f' x (a_string t) e act p = subst (λ y. Sim i u.gone u.named side w R act (traced (traces.gives y))) (sym (same e)) p
    where
      same : Some (string_value t) ≡ Some x → string_value t ≡ x
      same q = cc
  constant-does {w} {R} go' f' x (a_symbol t) e act p = subst (λ y. Sim i u.gone u.named side w R act (traced (traces.gives y))) (sym (same e)) p
    where
      same : Some (symbol_value t) ≡ Some x → symbol_value t ≡ x
      same q = cc
  constant-does {w} {R} go' f' x (a_char b) e act p = subst (λ y. Sim i u.gone u.named side w R act (traced (traces.gives y))) (sym (same e)) p
    where
      same : Some (char_value b) ≡ Some x → char_value b ≡ x
      same q = cc
  constant-does {w} {R} go' f' x (a_class c) e act p = subst (λ y. Sim i u.gone u.named side w R act (traced (traces.gives y))) (sym (same e)) p
    where
      same : Some (class_value c) ≡ Some x → class_value c ≡ x
      same q = cc

  -- a cell before and its partner
  cell-sim : {w : World} (f' : ResolvedFrame) (k l j : ℕ) → slice_get f'.locals j ≡ Some (in_cell l) → IsPaired w.cells k l → Sims w (traced (traces.with_memory (λ m. (value_in_cell m k, m)))) (reads_local resolved_traces (slice_get f'.locals j))
  cell-sim {w} f' k l j e p =
      subst (λ b. Sims w (traced (traces.with_memory (λ m. (value_in_cell m k, m)))) (reads_local resolved_traces b)) (sym e)
      (looked (λ m. value_in_cell m k) (λ m. value_in_cell m l) (λ v cs cs' m m' o q. cell-linked i u.gone u.named q k l (o.cells.kept k l p)))

  -- a value, and a cell that holds it as long as nothing assigns it
  lent-sim : {w : World} (x : Value) (l : ℕ) → w.frozen l ≡ Some x → Sims w (traced (traces.gives x)) (traced (traces.with_memory (λ n. (value_in_cell n l, n))))
  unfolding traced
  lent-sim x l z v cs cs' m m' o q = both_give v (onward-at_once v) refl q (sym (get_or_from_slice_get m'.cells l x nil_value (q.frozen l x (sym (o.frozen l) ∙ z))))

  -- a cell that was set for good
  settled-sim : {w : World} (x : Value) (c : ℕ) → IsSettled w c x → Sims w (traced (traces.with_memory (λ n. (value_in_cell n c, n)))) (traced (traces.gives x))
  unfolding traced
  settled-sim x c s v cs cs' m m' o q = both_give v (onward-at_once v) refl q (get_or_from_slice_get m.cells c x nil_value (q.settled c x ((forth o).settled c x s).there))

  -- what a binding has for good
  has-sim : {w : World} {b : Binding} (x : Value) → Has w b x → Sims w (reads_local resolved_traces (Some b)) (traced (traces.gives x))
  has-sim x (has_value y) = same-value x x refl
  has-sim x (has_settled c y s) = settled-sim x c s

  -- a local and what stands in for it
  pub local-sim : {w : World} (go' : Evaluator) (f' : ResolvedFrame) (a : StandIn) {o : Option Binding} → IsRead a → StandsAt w f'.locals f'.me a o → Sims w (reads_local resolved_traces o) (does_resolved resolved_traces after go' f' (stand_in a))
  local-sim {w} go' f' a t (stands_at (as_argument {b = b} x j h e)) = subst (λ o. Sims w (reads_local resolved_traces (Some b)) (reads_local resolved_traces o)) (sym e) (has-sim x h)
  local-sim go' f' a t (stands_at (as_dropped c s)) = absurd t
  local-sim {w} go' f' a t (stands_at (as_temporary k l j e p s)) = cell-sim f' k l j e p
  local-sim {w} go' f' a t (stands_at (as_steady k l j e p s n)) = cell-sim f' k l j e p
  local-sim {w} go' f' a t (stands_at (as_far k l j e p s)) = cell-sim f' k l j e p
  local-sim {w} go' f' a t (stands_at (as_lent x l j e z)) =
      subst (λ b. Sims w (traced (traces.gives x)) (reads_local resolved_traces b)) (sym e)
      (lent-sim x l z)
  local-sim go' f' a t (stands_at (as_nothing b)) = absurd t
  local-sim go' f' a t (stands_at (as_constant {b = b} x c h e)) = constant-does go' f' x c e (reads_local resolved_traces (Some b)) (has-sim x h)

  -- literals
  pub new-array : {w : World} (vs : List Value) → Sims w (makes_new_array resolved_traces.plain vs) (makes_new_array resolved_traces.plain vs)
  new-array vs = memory-sim i u.gone u.named side _ _ (λ v cs cs' m m' o l. array-changes i u.gone u.named l vs)

  integer-sim : {w : World} (o : Option _) → Sims w (gives_integer resolved_traces.plain o) (gives_integer resolved_traces.plain o)
  integer-sim (Some z) = same-value _ _ refl
  integer-sim None = fails-sim i u.gone u.named side unsupported

  mutual
    pub literal-sim : {w : World} (l : LiteralOf Name) → Sims w (literal_value resolved_traces.plain l) (literal_value resolved_traces.plain l)
    literal-sim (number t) = integer-sim (numeral_integer t)
    literal-sim (str t) = same-value _ _ refl
    literal-sim (symbol t) = same-value _ _ refl
    literal-sim (char b) = same-value _ _ refl
    literal-sim (array ls) = then-same (literals-sim ls) (λ v vs o. new-array vs)
    literal-sim (bytes ls) = fails-sim i u.gone u.named side unsupported
    literal-sim (word n) = same-value _ _ refl

    literals-sim : {w : World} (ls : LiteralsOf Name) → Sim i u.gone u.named side w Same (literal_values resolved_traces.plain ls) (literal_values resolved_traces.plain ls)
    literals-sim no_literals = same-value _ _ refl
    literals-sim (more_literals l ls) = then-same (literal-sim l) (λ v x o. then-same (literals-sim ls) (λ v vs o. same-value _ _ refl))

  -- a cell is assigned, and its partner
  assigned-sim : {w : World} (f' : ResolvedFrame) (x : Value) (k l j : ℕ) → slice_get f'.locals j ≡ Some (in_cell l) → IsPaired w.cells k l → ((v : World) (cs cs' : List ResolvedClosure) (m m' : Memory) → Onward w v → Linked i u.gone u.named v cs m cs' m' → v.frozen l ≡ None) →
      Sims w (traced (traces.with_memory (λ m. (x, with_cell m k x)))) (assigns_local resolved_traces x (slice_get f'.locals j))
  assigned-sim {w} f' x k l j e p free =
      subst (λ b. Sims w (traced (traces.with_memory (λ m. (x, with_cell m k x)))) (assigns_local resolved_traces x b)) (sym e)
      (memory-sim i u.gone u.named side _ _ (λ v cs cs' m m' o q. cell-changes i u.gone u.named q k l x (o.cells.kept k l p) (free v cs cs' m m' o q)))

  -- assigning a temporary
  pub temporary-sim : {w : World} (f' : ResolvedFrame) (x : Value) (j : ℕ) {o : Option Binding} → StandsAt w f'.locals f'.me (a_temporary j) o → Sims w (assigns_local resolved_traces x o) (assigns_local resolved_traces x (slice_get f'.locals j))
  temporary-sim {w} f' x j (stands_at (as_temporary k l n e p s)) = assigned-sim f' x k l n e p (λ v cs cs' m m' o q. free v cs cs' m m' o q (v.frozen l) refl)
    where
      true-false : Some true ≡ Some false → ⊥
      true-false z = cc

      free : (v : World) (cs cs' : List ResolvedClosure) (m m' : Memory) → Onward w v → Linked i u.gone u.named v cs m cs' m' → (z : Option Value) → v.frozen l ≡ z → v.frozen l ≡ None
      free v cs cs' m m' o q None e = e
      free v cs cs' m m' o q (Some y) e = absurd (true-false (sym (q.frozen_steady l y e) ∙ o.steadies l false s))
  temporary-sim f' x j (stands_at (as_constant y b h e)) = absurd (cc)

  pub steady-sim : {w : World} (f' : ResolvedFrame) (x : Value) (j : ℕ) {o : Option Binding} → StandsAt w f'.locals f'.me (a_steady j) o → Sims w (assigns_local resolved_traces x o) (assigns_local resolved_traces x (slice_get f'.locals j))
  steady-sim {w} f' x j (stands_at (as_steady k l n e p s z)) = assigned-sim f' x k l n e p (λ v cs cs' m m' o q. sym (o.frozen l) ∙ z)
  steady-sim f' x j (stands_at (as_constant y b h e)) = absurd (cc)

  -- assigning something else
  pub assigns-sim : {w : World} (f f' : ResolvedFrame) (x : Value) (n : Target) → IsOuterTarget n → f.me ≡ f'.me → Sims w (assigns_target resolved_traces f x n) (assigns_target resolved_traces f' x n)
  assigns-sim f f' x (to_temporary k) t me = absurd t
  assigns-sim {w} f f' x (to_instance_variable n) t me =
      subst (λ y. Sims w (traced (traces.with_memory (λ m. (x, with_field m f.me n x)))) (traced (traces.with_memory (λ m. (x, with_field m y n x))))) me
      (memory-sim i u.gone u.named side _ _ (λ v cs cs' m m' o l. field-changes i u.gone u.named l f.me n x))
  assigns-sim {w} f f' x (to_class_side_variable n) t me =
      subst (λ y. Sims w (traced (traces.with_memory (λ m. (x, with_class_side m f.me n x)))) (traced (traces.with_memory (λ m. (x, with_class_side m y n x))))) me
      (memory-sim i u.gone u.named side _ _ (λ v cs cs' m m' o l. side-changes i u.gone u.named l f.me n x))
  assigns-sim f f' x (to_class_variable c n) t me = memory-sim i u.gone u.named side _ _ (λ v cs cs' m m' o l. shared-changes i u.gone u.named l c n x)
  assigns-sim f f' x (to_fixed n) t me = fails-sim i u.gone u.named side (not_assignable n)
  assigns-sim f f' x (to_nothing n) t me = fails-sim i u.gone u.named side (undeclared_name n)

  -- a tested value
  pub chooses-sim : {w : World} (x : Value) {a a' b b' : TracedAct Value} → Sims w a a' → Sims w b b' → Sims w (chooses resolved_traces.plain x a b) (chooses resolved_traces.plain x a' b')
  chooses-sim true_value p q = p
  chooses-sim false_value p q = q
  chooses-sim nil_value p q = fails-sim i u.gone u.named side _
  chooses-sim (int_value z) p q = fails-sim i u.gone u.named side _
  chooses-sim (char_value c) p q = fails-sim i u.gone u.named side _
  chooses-sim (string_value t) p q = fails-sim i u.gone u.named side _
  chooses-sim (symbol_value t) p q = fails-sim i u.gone u.named side _
  chooses-sim (class_value c) p q = fails-sim i u.gone u.named side _
  chooses-sim (object_value k) p q = fails-sim i u.gone u.named side _
  chooses-sim (array_value k) p q = fails-sim i u.gone u.named side _
  chooses-sim (closure_value k) p q = fails-sim i u.gone u.named side _
  chooses-sim transcript_value p q = fails-sim i u.gone u.named side _

  pub goes_on-sim : {w : World} (sense : Bool) (x : Value) {a a' : TracedAct Value} → Sims w a a' → Sims w (goes_on resolved_traces.plain sense x a) (goes_on resolved_traces.plain sense x a')
  goes_on-sim true x p = chooses-sim x p (same-value _ _ refl)
  goes_on-sim false x p = chooses-sim x (same-value _ _ refl) p

  -- a brace
  pub brace-sim : {w : World} (vs : List Value) → Sims w (makes_brace resolved_traces.plain vs) (makes_brace resolved_traces.plain vs)
  brace-sim vs = if-sim (nat_lt 65535 (length vs)) (fails-sim i u.gone u.named side _) (new-array vs)

  -- whether the name `super` is read
  pub super-alike : {g : Context} {t t' : ResolvedTree} → Unfolds i u.gone g t t' → reads_super t ≡ reads_super t'
  super-alike (same_local k (an_argument j) e z) = refl
  super-alike (same_local k (a_temporary j) e z) = refl
  super-alike (same_local k (a_steady j) e z) = refl
  super-alike (same_local k (a_far j) e z) = refl
  super-alike (same_local k (a_lent j) e z) = refl
  super-alike (same_local k a_dropped e z) = refl
  super-alike (same_local k a_nothing e z) = refl
  super-alike (same_local k a_self e z) = refl
  super-alike (same_local k a_nil e z) = refl
  super-alike (same_local k a_true e z) = refl
  super-alike (same_local k a_false e z) = refl
  super-alike (same_local k (a_number t) e z) = refl
  super-alike (same_local k (a_string t) e z) = refl
  super-alike (same_local k (a_symbol t) e z) = refl
  super-alike (same_local k (a_char c) e z) = refl
  super-alike (same_local k (a_class c) e z) = refl
  super-alike (same_reading r t) = refl
  super-alike (same_constant l) = refl
  super-alike (same_message p q n s r rs) = refl
  super-alike (same_choice a a' b b' p q r x y) = refl
  super-alike (same_loop sense a a' b b' p q x y) = refl
  super-alike (same_cascade r rs) = refl
  super-alike (same_temporary k j e r) = refl
  super-alike (same_steady k j e r) = refl
  super-alike (same_assignment x t r) = refl
  super-alike (same_block p ms r) = refl
  super-alike (same_brace rs) = refl
  super-alike (same_return e r) = refl
  super-alike (unfolded_value actuals supers p qs e r) = sym e ∙ super-alike r
  super-alike (unfolded_setter x t p r) = refl
