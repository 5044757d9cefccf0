-- A node, and what a metavariable is bound to, made of its parts.
use Rattle.std.proofs.Common.{◌≡◌, ℕ, Bool, true, false, List, Option, Some, map, refl, sym, ap, subst, ◌∙◌}
use Rattle.std.specs.Prelude.{cond, MatchOption}
use Rattle.std.specs.Borrow.{Bor}
use Rattle.std.specs.List.{AllByRecursion}
use Rattle.rb_base.specs.Names.{name_at}
use Rattle.tree_model.specs.Tree.{Notes, LiteralOf, TreeOf, TreesOf, MessagesOf, StatementsOf, var, literal, send, cascade, assign, block, brace, return, trees_of}
use Rattle.tree_model.specs.AllNames.{AllNames, TreesNames, MessagesNames, StatementsNames}
use Rattle.st_tree.specs.View.{messages_of, statements_of}
use Rattle.st_tree.specs.declared.tree.Message.{Message}
use Rattle.st_tree.specs.declared.tree.Sequence.{Sequence}
use Rattle.st_tree.specs.declared.tree.Statement.{Statement}
use Rattle.event_trees.specs.Naming.{Grows}
use Rattle.pattern_model.specs.Bindings.{BoundOf, a_part, a_run, a_selector, a_keyword, a_message, BindingOf}
use Rattle.pattern_model.specs.Named.{map_meta, map_bound}
use Rattle.pattern_model.specs.Rewritten.{each_child, each_bound}
use Rattle.patterns.specs.View.{meta_of}
use Rattle.patterns.specs.declared.tree.Meta.{Meta}
use Rattle.patterns.specs.declared.tree.Rule.{Rule}
use Rattle.pattern_match.specs.Bound.{bound_of, held_of}
use Rattle.pattern_match.specs.Gathering.{bound_from}
use Rattle.pattern_match.specs.declared.bindings.Bound.{Bound}
use Rattle.pattern_match.specs.declared.bindings.Held.{Held}
use Rattle.pattern_match.specs.declared.standing.Standing.{Standing}
use Rattle.pattern_match.specs.declared.standing.Standing.TheVariants as standing
use Rattle.filled_patterns.specs.declared.bindings.Binding.{Binding}
use Rattle.filled_patterns.specs.Bound.{BoundNames, BindingNames}
use Rattle.filled_patterns.specs.Left.{HoldsOne}
use Rattle.rewritten_code.specs.Changed.{Paired, Known, becomes, IsChanged, IsMessageChanged, IsStatementChanged, IsBoundChanged, IsBindingChanged}
use Rattle.rewritten_code.specs.Lower.{height_bound, doubled_height}
use Rattle.rewritten_code.proofs.Growing.{still_known, tree_known}
use Rattle.rewritten_code.proofs.Written.{trees_changed, messages_changed, statements_changed}

-- what is known of a node is known of its parts
module _ (P : ℕ → Type 0) (t : TreeOf ℕ) (all : AllNames P t) where
  pub of_var : (n : ℕ) → t ≡ var n → P n
  of_var n e = subst (AllNames P) e all

  pub of_literal : (l : LiteralOf ℕ) → t ≡ literal l → AllNames P (literal l)
  of_literal l e = subst (AllNames P) e all

  pub of_send : (r : TreeOf ℕ) (n : ℕ) (ts : TreesOf ℕ) → t ≡ send r n ts → AllNames P r × P n × TreesNames P ts
  of_send r n ts e = subst (AllNames P) e all

  pub of_cascade : (r : TreeOf ℕ) (ms : MessagesOf ℕ) → t ≡ cascade r ms → AllNames P r × MessagesNames P ms
  of_cascade r ms e = subst (AllNames P) e all

  pub of_block : (ps ts : List ℕ) (ss : StatementsOf ℕ) (e : Notes) → t ≡ block ps ts ss e → AllByRecursion P ps × AllByRecursion P ts × StatementsNames P ss
  of_block ps ts ss e is = subst (AllNames P) is all

  pub of_assign : (n : ℕ) (v : TreeOf ℕ) → t ≡ assign n v → P n × AllNames P v
  of_assign n v e = subst (AllNames P) e all

  pub of_brace : (ts : TreesOf ℕ) → t ≡ brace ts → TreesNames P ts
  of_brace ts e = subst (AllNames P) e all

  pub of_return : (v : TreeOf ℕ) → t ≡ return v → AllNames P v
  of_return v e = subst (AllNames P) e all

-- a node whose parts are lent
pub send_is : {t r q : TreeOf ℕ} {n : ℕ} {ts us : List (TreeOf ℕ)} → t ≡ send r n (trees_of ts) → q ≡ r → us ≡ ts → t ≡ send q n (trees_of us)
send_is {n = n} e f g = e ∙ (λ i. send (sym f i) n (trees_of (sym g i)))

pub cascade_is : {t r q : TreeOf ℕ} {ms ns : List Message} → t ≡ cascade r (messages_of ms) → q ≡ r → ns ≡ ms → t ≡ cascade q (messages_of ns)
cascade_is e f g = e ∙ (λ i. cascade (sym f i) (messages_of (sym g i)))

pub assign_is : {t v q : TreeOf ℕ} {n : ℕ} → t ≡ assign n v → q ≡ v → t ≡ assign n q
assign_is {n = n} e f = e ∙ ap (assign n) (sym f)

pub block_is : {t : TreeOf ℕ} {ps : List ℕ} {b d : Sequence} → t ≡ block ps b.temporaries (statements_of b.statements) b.tail → d ≡ b → t ≡ block ps d.temporaries (statements_of d.statements) d.tail
block_is {ps = ps} e f = e ∙ ap (λ (b : Sequence). block ps b.temporaries (statements_of b.statements) b.tail) (sym f)

pub brace_is : {t : TreeOf ℕ} {ts us : List (TreeOf ℕ)} → t ≡ brace (trees_of ts) → us ≡ ts → t ≡ brace (trees_of us)
brace_is e f = e ∙ ap (λ (ts : List (TreeOf ℕ)). brace (trees_of ts)) (sym f)

pub return_is : {t v q : TreeOf ℕ} → t ≡ return v → q ≡ v → t ≡ return q
return_is e f = e ∙ ap return (sym f)

-- what becomes of parts, in each table that comes later
module _ (names : List (List ℕ)) (r : Rule) where
  abbrev pub Becomes : TreeOf ℕ → TreeOf ℕ → Type 0
  Becomes t u = (final : List (List ℕ)) → Grows names final → IsChanged final (becomes final r) t u

  abbrev pub BelowBecomes : TreeOf ℕ → TreeOf ℕ → Type 0
  BelowBecomes t u = (final : List (List ℕ)) → Grows names final → IsChanged final (each_child (becomes final r)) t u

  abbrev pub BoundBecomes : BoundOf ℕ → BoundOf ℕ → Type 0
  BoundBecomes b d = (final : List (List ℕ)) → Grows names final → IsBoundChanged final (becomes final r) b d

-- a node of which the nodes right below are made
module _ (final : List (List ℕ)) (f : TreeOf (List ℕ) → TreeOf (List ℕ)) where
  pub made_send : (q u : TreeOf ℕ) (n : ℕ) (ts us : List (TreeOf ℕ)) → Known final n → IsChanged final f q u → Paired (IsChanged final f) ts us → IsChanged final (each_child f) (send q n (trees_of ts)) (send u n (trees_of us))
  made_send q u n ts us k one h =
      let others = trees_changed final f ts us h in
      record { same = λ i. send (one.same i) (name_at final n) (others.0 i); known = (one.known, k, others.1) }

  pub made_cascade : (q u : TreeOf ℕ) (ms ns : List Message) → IsChanged final f q u → Paired (IsMessageChanged final f) ms ns → IsChanged final (each_child f) (cascade q (messages_of ms)) (cascade u (messages_of ns))
  made_cascade q u ms ns one h =
      let others = messages_changed final f ms ns h in
      record { same = λ i. cascade (one.same i) (others.0 i); known = (one.known, others.1) }

  pub made_assignment : (n : ℕ) (q u : TreeOf ℕ) → Known final n → IsChanged final f q u → IsChanged final (each_child f) (assign n q) (assign n u)
  made_assignment n q u k one = record { same = ap (assign (name_at final n)) one.same; known = (k, one.known) }

  pub made_block : (ps ts : List ℕ) (ss us : List Statement) (c : Notes) → AllByRecursion (Known final) ps → AllByRecursion (Known final) ts → Paired (IsStatementChanged final f) ss us
      → IsChanged final (each_child f) (block ps ts (statements_of ss) c) (block ps ts (statements_of us) c)
  made_block ps ts ss us c k l h =
      let others = statements_changed final f ss us h in
      record { same = λ i. block (map (name_at final) ps) (map (name_at final) ts) (others.0 i) c; known = (k, l, others.1) }

  -- the block whose parts are made
  pub block_made : (ps qs : List ℕ) (b m d : Sequence) (us : List Statement) → qs ≡ ps → m ≡ record b { statements = us } → d ≡ m → AllByRecursion (Known final) ps → AllByRecursion (Known final) b.temporaries
      → Paired (IsStatementChanged final f) b.statements us
      → IsChanged final (each_child f) (block ps b.temporaries (statements_of b.statements) b.tail) (block qs d.temporaries (statements_of d.statements) d.tail)
  block_made ps qs b m d us e is same k l h =
      let t : TreeOf ℕ = block ps b.temporaries (statements_of b.statements) b.tail in
      subst (λ (x : Sequence). IsChanged final (each_child f) t (block qs x.temporaries (statements_of x.statements) x.tail)) (sym (same ∙ is))
      (subst (λ (xs : List ℕ). IsChanged final (each_child f) t (block xs b.temporaries (statements_of us) b.tail)) (sym e) (made_block ps b.temporaries b.statements us b.tail k l h))

  pub made_brace : (ts us : List (TreeOf ℕ)) → Paired (IsChanged final f) ts us → IsChanged final (each_child f) (brace (trees_of ts)) (brace (trees_of us))
  made_brace ts us h =
      let others = trees_changed final f ts us h in
      record { same = ap brace others.0; known = others.1 }

  pub made_return : (q u : TreeOf ℕ) → IsChanged final f q u → IsChanged final (each_child f) (return q) (return u)
  made_return q u one = record { same = ap return one.same; known = one.known }

  pub made_var : (n : ℕ) → Known final n → IsChanged final (each_child f) (var n) (var n)
  made_var n k = record { same = refl; known = k }

  pub made_literal : (l : LiteralOf ℕ) → AllNames (Known final) (literal l) → IsChanged final (each_child f) (literal l) (literal l)
  made_literal l k = record { same = refl; known = k }

  -- what is bound is made
  pub made_part : (t u : TreeOf ℕ) → IsChanged final f t u → IsBoundChanged final f (a_part t) (a_part u)
  made_part t u one = record { same = ap a_part one.same; known = one.known }

  pub made_run : (ss us : List Statement) → Paired (IsStatementChanged final f) ss us → IsBoundChanged final f (a_run (statements_of ss)) (a_run (statements_of us))
  made_run ss us h = let others = statements_changed final f ss us h in record { same = ap a_run others.0; known = others.1 }

  pub made_message : (n : ℕ) (ts us : List (TreeOf ℕ)) → Known final n → Paired (IsChanged final f) ts us → IsBoundChanged final f (a_message n (trees_of ts)) (a_message n (trees_of us))
  made_message n ts us k h = let others = trees_changed final f ts us h in record { same = ap (a_message (name_at final n)) others.0; known = (k, others.1) }

  pub made_selector : (n : ℕ) → Known final n → IsBoundChanged final f (a_selector n) (a_selector n)
  made_selector n k = record { same = refl; known = k }

  pub made_keyword : (k : List ℕ) → IsBoundChanged final f (a_keyword k) (a_keyword k)
  made_keyword k = record { same = refl; known = tt }

  -- a binding is made, where its metavariable is doubled, and where it is not
  pub held_binding : (m : Meta) (x : Bound) (s : Binding) → s.meta ≡ m → s.bound ≡ Some x → HoldsOne (record { meta = meta_of m; bound = bound_of x }) s
  held_binding m x s em eb = record {
    meta = ap meta_of em;
    bound = subst (λ (o : Option Bound). MatchOption o (Unit {0}) (λ y. bound_of y ≡ bound_of x)) (sym eb) refl;
  }

  abbrev Chosen : Meta → BoundOf ℕ → Bool → BindingOf (List ℕ)
  Chosen m b d = cond d (record { meta = map_meta (name_at final) (meta_of m); bound = each_bound f (map_bound (name_at final) b) }) (record { meta = map_meta (name_at final) (meta_of m); bound = map_bound (name_at final) b })

  pub made_doubled : (m : Meta) (b : BoundOf ℕ) (x : Bound) (s : Binding) → s.meta ≡ m → s.bound ≡ Some x → m.doubled ≡ true → Known final m.name → IsBoundChanged final f b (bound_of x)
      → IsBindingChanged final f (record { meta = meta_of m; bound = b }) s
  made_doubled m b x s em eb d k c = record {
    binding = record { meta = meta_of m; bound = bound_of x };
    held = held_binding m x s em eb;
    same = (λ i. record { meta = map_meta (name_at final) (meta_of m); bound = c.same i }) ∙ ap (Chosen m b) (sym d);
    known = (k, c.known);
  }

  pub made_single : (m : Meta) (b : BoundOf ℕ) (x : Bound) (s : Binding) → s.meta ≡ m → s.bound ≡ Some x → m.doubled ≡ false → BindingNames (Known final) (record { meta = meta_of m; bound = b }) → bound_of x ≡ b
      → IsBindingChanged final f (record { meta = meta_of m; bound = b }) s
  made_single m b x s em eb d k e = record {
    binding = record { meta = meta_of m; bound = bound_of x };
    held = held_binding m x s em eb;
    same = (λ i. record { meta = map_meta (name_at final) (meta_of m); bound = map_bound (name_at final) (e i) }) ∙ ap (Chosen m b) (sym d);
    known = (k.0, subst (BoundNames (Known final)) (sym e) k.1);
  }

-- a node without parts, and what is bound without one, stay
module _ (names : List (List ℕ)) (r : Rule) where
  pub var_stays : (t : TreeOf ℕ) (n : ℕ) → AllNames (Known names) t → t ≡ var n → BelowBecomes names r t (var n)
  var_stays t n k e = λ final g.
      subst (λ (x : TreeOf ℕ). IsChanged final (each_child (becomes final r)) x (var n)) (sym e) (made_var final (becomes final r) n (still_known g n (of_var (Known names) t k n e)))

  pub literal_stays : (t u : TreeOf ℕ) (l : LiteralOf ℕ) → AllNames (Known names) t → t ≡ literal l → u ≡ literal l → BelowBecomes names r t u
  literal_stays t u l k e d = λ final g.
      subst (λ (x : TreeOf ℕ). IsChanged final (each_child (becomes final r)) x u) (sym e)
      (subst (λ (x : TreeOf ℕ). IsChanged final (each_child (becomes final r)) (literal l) x) (sym d) (made_literal final (becomes final r) l (tree_known g (literal l) (of_literal (Known names) t k l e))))

  pub copied_stays : (s : Standing) → ((x : Bor (TreeOf ℕ)) → s ≡ standing.Part x → ⊥) → ((x : Bor (List Statement)) → s ≡ standing.Run x → ⊥) → ((n : ℕ) (x : Bor (List (TreeOf ℕ))) → s ≡ standing.Message n x → ⊥) → BoundNames (Known names) (bound_from s)
      → (d : BoundOf ℕ) → d ≡ bound_from s → BoundBecomes names r (bound_from s) d
  copied_stays s p q m k d e = λ final g. subst (λ (x : BoundOf ℕ). IsBoundChanged final (becomes final r) (bound_from s) x) (sym e) (stays final g s p q m k)
    where
      stays : (final : List (List ℕ)) → Grows names final → (s : Standing) → ((x : Bor (TreeOf ℕ)) → s ≡ standing.Part x → ⊥) → ((x : Bor (List Statement)) → s ≡ standing.Run x → ⊥) → ((n : ℕ) (x : Bor (List (TreeOf ℕ))) → s ≡ standing.Message n x → ⊥)
          → BoundNames (Known names) (bound_from s) → IsBoundChanged final (becomes final r) (bound_from s) (bound_from s)
      stays final g (standing.Part x) p q m k = absurd (p x refl)
      stays final g (standing.Run x) p q m k = absurd (q x refl)
      stays final g (standing.Selector n) p q m k = made_selector final (becomes final r) n (still_known g n k)
      stays final g (standing.Keyword y) p q m k = made_keyword final (becomes final r) y
      stays final g (standing.Message n x) p q m k = absurd (m n x refl)

-- how high what a doubled metavariable holds is
pub doubled_same : (h : Held) → h.meta.doubled ≡ true → doubled_height (held_of h) ≡ height_bound (bound_from h.bound)
doubled_same h e = ap (λ (d : Bool). cond d (height_bound (bound_from h.bound)) 0) e
