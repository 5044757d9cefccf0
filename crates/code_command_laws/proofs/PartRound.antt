-- Where a part of a method stands, and what the method is in which a temporary stands in its place.
use Rattle.std.proofs.Common.{◌≡◌, ℕ, suc, ◌+◌, List, [], ◌∷◌, ◌++◌, length, take, slice_get, false, Option, Some, None, option_and_then, option_map, refl, sym, ap, ◌∙◌, subst, arith, ◌⊎◌, inl, inr}
use Rattle.std.specs.Prelude.{unwrap_or}
use Rattle.std.specs.Option.{option_map_or}
use Rattle.tree_model.specs.Tree.{TreeOf, var, literal, send, cascade, assign, block, brace, return, SequenceOf, MethodOf}
use Rattle.tree_model.specs.Path.{nth, child, statement_trees, part_at, part_in, with_statement, with_child, replaced, method_replaced}
use Rattle.tree_model.proofs.Parts.{part_at-append, replaced-append, part_in-replaced_in, replaced_in-replaced_in}
use Rattle.scope_model.specs.Control.{is_block}
use Rattle.scope_model.specs.Scope.{ScopeOf, PlacedScope, method_scope, own_scope, entered}
use Rattle.command_model.specs.Asked.{AskedOf}
use Rattle.command_model.specs.Places.{innermost, sequence_round, statement_round}
use Rattle.command_model.specs.Sequences.{single, put_in, block_changed, sequence_changed}
use Rattle.command_model.specs.Temporaries.{temporary_extracted}
use Rattle.code_command_laws.specs.Round.{IsOpen, open_here, open_step, InBlock, this_block, block_below, let_sequence}

-- the first item, with further ones behind
begins-append : {X : Type 0} (xs ys : List X) (x : X) → slice_get xs 0 ≡ Some x → slice_get (xs ++ ys) 0 ≡ Some x
begins-append [] ys x e = absurd (cc)
begins-append (y ∷ xs) ys x e = e

-- the beginning of a path, and the step behind it
pub take-steps : (js : List ℕ) (k : ℕ) (ks : List ℕ) → take (length js) (js ++ k ∷ ks) ≡ js
take-steps [] k ks = refl
take-steps (j ∷ js) k ks = ap (λ l. j ∷ l) (take-steps js k ks)

pub step-behind : (js : List ℕ) (k : ℕ) (ks : List ℕ) → slice_get (js ++ k ∷ ks) (length js) ≡ Some k
step-behind [] k ks = refl
step-behind (j ∷ js) k ks = step-behind js k ks

module _ {N : Type 0} where
  -- a node that is no block enters none
  own-none : (depth : ℕ) (t : TreeOf N) → is_block t ≡ false → own_scope depth t ≡ []
  own-none depth (var n) e = refl
  own-none depth (literal l) e = refl
  own-none depth (send r s args) e = refl
  own-none depth (cascade r ms) e = refl
  own-none depth (assign n t) e = refl
  own-none depth (block ps ts ss tail) e = absurd (cc)
  own-none depth (brace ts) e = refl
  own-none depth (return t) e = refl

  -- where one step leads
  pub step-in : (depth : ℕ) (t c : TreeOf N) (k : ℕ) (ks : List ℕ) → child t k ≡ Some c → entered depth t (k ∷ ks) ≡ entered (depth + 1) c ks ++ own_scope depth t
  step-in depth t c k ks e = ap (λ o. unwrap_or (option_map (λ c. entered (depth + 1) c ks) o) [] ++ own_scope depth t) e

  pub open-enters : {part t : TreeOf N} {path : List ℕ} (depth : ℕ) → IsOpen part t path → entered depth t path ≡ []
  open-enters depth open_here = refl
  open-enters depth (open_step {t = t} {c = c} {k = k} {ks = ks} plain e p) = step-in depth t c k ks e ∙ (λ j. open-enters (depth + 1) p j ++ own-none depth t plain j)

  -- it leads there
  pub open-leads : {part t : TreeOf N} {path : List ℕ} → IsOpen part t path → part_at t path ≡ Some part
  open-leads open_here = refl
  open-leads {part = part} (open_step {ks = ks} plain e p) = ap (option_and_then (λ c. part_at c ks)) e ∙ open-leads p

  -- a block, and the scope that it is
  abbrev pub block_with : List N → SequenceOf N → TreeOf N
  block_with ps b = block ps b.temporaries b.statements b.tail

  abbrev pub scope_with : List N → SequenceOf N → ScopeOf N
  scope_with ps b = record { arguments = ps; temporaries = b.temporaries; statements = b.statements }

  module _ {part : TreeOf N} {ps : List N} {b : SequenceOf N} {k : ℕ} {s : TreeOf N} {ks : List ℕ} where
    pub block-there : {t : TreeOf N} {js : List ℕ} → InBlock part ps b k s ks t js → part_at t js ≡ Some (block_with ps b)
    block-there (this_block e p) = refl
    block-there (block_below {js = js} e p) = ap (option_and_then (λ c. part_at c js)) e ∙ block-there p

    pub statement-there : {t : TreeOf N} {js : List ℕ} → InBlock part ps b k s ks t js → (nth (statement_trees b.statements) k ≡ Some s) × IsOpen part s ks
    statement-there (this_block e p) = (e, p)
    statement-there (block_below e p) = statement-there p

    -- it is the innermost scope
    pub block-first : {t : TreeOf N} {js : List ℕ} (depth : ℕ) → InBlock part ps b k s ks t js → slice_get (entered depth t (js ++ k ∷ ks)) 0 ≡ Some (depth + length js, scope_with ps b)
    block-first depth (this_block e p) =
        ap (λ l. slice_get l 0) (step-in depth (block_with ps b) s k ks e) ∙ ap (λ l. slice_get (l ++ own_scope depth (block_with ps b)) 0) (open-enters (depth + 1) p) ∙ ap (λ n. Some (n, scope_with ps b)) (none depth)
      where
        none : (d : ℕ) → d ≡ d + 0
        none d = omega arith
    block-first depth (block_below {t = t} {c = c} {j = j} {js = js} e p) =
        ap (λ l. slice_get l 0) (step-in depth t c j (js ++ k ∷ ks) e)
        ∙ begins-append (entered (depth + 1) c (js ++ k ∷ ks)) (own_scope depth t) (depth + 1 + length js, scope_with ps b) (block-first (depth + 1) p)
        ∙ ap (λ n. Some (n, scope_with ps b)) (next depth (length js))
      where
        next : (d n : ℕ) → d + 1 + n ≡ d + suc n
        next d n = omega arith

  -- where a part stands below a node
  pub record BlockRound (part t : TreeOf N) (path : List ℕ) : Type 0 where
    pub steps : List ℕ
    pub parameters : List N
    pub sequence : SequenceOf N
    pub number : ℕ
    pub statement : TreeOf N
    pub rest : List ℕ
    pub same : path ≡ steps ++ number ∷ rest
    pub inside : InBlock part parameters sequence number statement rest t steps

  below-round : {part t c : TreeOf N} {k : ℕ} {ks : List ℕ} → child t k ≡ Some c → BlockRound part c ks → BlockRound part t (k ∷ ks)
  below-round {k = k} e r = record { steps = k ∷ r.steps; parameters = r.parameters; sequence = r.sequence; number = r.number; statement = r.statement; rest = r.rest; same = ap (λ l. k ∷ l) r.same; inside = block_below e r.inside }

  this-round : {part : TreeOf N} (t c : TreeOf N) (k : ℕ) (ks : List ℕ) → child t k ≡ Some c → IsOpen part c ks → IsOpen part t (k ∷ ks) ⊎ BlockRound part t (k ∷ ks)
  this-round (var n) c k ks e p = inl (open_step refl e p)
  this-round (literal l) c k ks e p = inl (open_step refl e p)
  this-round (send r s args) c k ks e p = inl (open_step refl e p)
  this-round (cascade r ms) c k ks e p = inl (open_step refl e p)
  this-round (assign n t) c k ks e p = inl (open_step refl e p)
  this-round (block ps ts ss tail) c k ks e p =
      inr (record { steps = []; parameters = ps; sequence = record { temporaries = ts; statements = ss; tail = tail }; number = k; statement = c; rest = ks; same = refl; inside = this_block e p })
  this-round (brace ts) c k ks e p = inl (open_step refl e p)
  this-round (return t) c k ks e p = inl (open_step refl e p)

  pub node-round : (part t : TreeOf N) (path : List ℕ) → part_at t path ≡ Some part → IsOpen part t path ⊎ BlockRound part t path
  node-round part t [] e = inl (subst (λ u. IsOpen part u []) (sym (same e)) open_here)
    where
      same : Some t ≡ Some part → t ≡ part
      same q = cc
  node-round part t (k ∷ ks) e = by (child t k) refl e (λ c. node-round part c ks)
    where
      further : (c : TreeOf N) → child t k ≡ Some c → IsOpen part c ks ⊎ BlockRound part c ks → IsOpen part t (k ∷ ks) ⊎ BlockRound part t (k ∷ ks)
      further c q (inl p) = this-round t c k ks q p
      further c q (inr r) = inr (below-round q r)

      by : (o : Option (TreeOf N)) → child t k ≡ o → option_and_then (λ c. part_at c ks) o ≡ Some part → ((c : TreeOf N) → part_at c ks ≡ Some part → IsOpen part c ks ⊎ BlockRound part c ks) → IsOpen part t (k ∷ ks) ⊎ BlockRound part t (k ∷ ks)
      by None q e h = absurd (cc)
      by (Some c) q e h = further c q (h c e)

-- a part of a method
module _ {N : Type 0} (a : AskedOf N) (m : MethodOf N) (x : N) (part : TreeOf N) where
  -- one of a statement of the body, through no block
  module _ (k : ℕ) (s : TreeOf N) (ks : List ℕ) (e : nth (statement_trees m.body.statements) k ≡ Some s) (p : IsOpen part s ks) where
    pub body-innermost : innermost m (k ∷ ks) ≡ 0
    body-innermost =
        ap (λ o. option_map_or (λ (z : PlacedScope N). z.0) (slice_get (unwrap_or (option_map (λ c. entered 1 c ks) o) [] ++ (0, method_scope m) ∷ []) 0) 0) e
        ∙ ap (λ l. option_map_or (λ (z : PlacedScope N). z.0) (slice_get (l ++ (0, method_scope m) ∷ []) 0) 0) (open-enters 1 p)

    pub body-part : part_in m.body (k ∷ ks) ≡ Some part
    body-part = ap (option_and_then (λ c. part_at c ks)) e ∙ open-leads p

    pub body-extracted : temporary_extracted a m (k ∷ ks) x ≡ Some (record m { body = let_sequence k part x (replaced s ks (var x)) m.body })
    body-extracted =
        ap (option_and_then (λ t. option_map (λ n. sequence_changed (declaring n t) (sequence_round m (k ∷ ks)) (method_replaced m (k ∷ ks) (var x))) (statement_round m (k ∷ ks)))) body-part
        ∙ ap (λ n. option_map (λ l. sequence_changed (declaring l part) (take n (k ∷ ks)) (method_replaced m (k ∷ ks) (var x))) (slice_get (k ∷ ks) n)) body-innermost
        ∙ ap (λ (o : Option (TreeOf N)). Some (record m { body = declaring k part (record m.body { statements = unwrap_or (option_map (λ c. with_statement m.body.statements k (replaced c ks (var x))) o) m.body.statements }) })) e
      where
        declaring : ℕ → TreeOf N → SequenceOf N → SequenceOf N
        declaring k t b = let c : SequenceOf N = put_in k 0 (single (assign x t)) b in record c { temporaries = c.temporaries ++ x ∷ [] }

  -- one of a statement of a block
  module _ (j : ℕ) (c : TreeOf N) (e : nth (statement_trees m.body.statements) j ≡ Some c) (ps : List N) (b : SequenceOf N) (k : ℕ) (s : TreeOf N) (ks js : List ℕ) (p : InBlock part ps b k s ks c js) where
    abbrev whole : List ℕ
    whole = j ∷ js ++ k ∷ ks

    abbrev old : TreeOf N
    old = block ps b.temporaries b.statements b.tail

    pub block-innermost : innermost m whole ≡ length (j ∷ js)
    block-innermost =
        ap (λ o. option_map_or (λ (z : PlacedScope N). z.0) (slice_get (unwrap_or (option_map (λ c. entered 1 c (js ++ k ∷ ks)) o) [] ++ (0, method_scope m) ∷ []) 0) 0) e
        ∙ ap (λ (o : Option (PlacedScope N)). option_map_or (λ z. z.0) o 0) (begins-append (entered 1 c (js ++ k ∷ ks)) ((0, method_scope m) ∷ []) _ (block-first 1 p))
        ∙ next (length js)
      where
        next : (n : ℕ) → 1 + n ≡ suc n
        next n = omega arith

    pub block-old : part_in m.body (j ∷ js) ≡ Some old
    block-old = ap (option_and_then (λ z. part_at z js)) e ∙ block-there p

    statement-part : part_at old (k ∷ ks) ≡ Some part
    statement-part = let h = statement-there p in ap (option_and_then (λ z. part_at z ks)) h.0 ∙ open-leads h.1

    pub block-part : part_in m.body whole ≡ Some part
    block-part = ap (option_and_then (λ z. part_at z (js ++ k ∷ ks))) e ∙ part_at-append c js (k ∷ ks) ∙ ap (option_and_then (λ z. part_at z (k ∷ ks))) (block-there p) ∙ statement-part

    -- with another part in its place
    pub block-replaced : (v : TreeOf N) → method_replaced m whole v ≡ method_replaced m (j ∷ js) (block ps b.temporaries (with_statement b.statements k (replaced s ks v)) b.tail)
    block-replaced v = ap (λ ss. record m { body = record m.body { statements = ss } }) (by (nth (statement_trees m.body.statements) j) e)
      where
        inner : replaced old (k ∷ ks) v ≡ block ps b.temporaries (with_statement b.statements k (replaced s ks v)) b.tail
        inner = ap (λ o. unwrap_or (option_map (λ z. with_child old k (replaced z ks v)) o) old) (statement-there p).0

        by : (o : Option (TreeOf N)) → o ≡ Some c →
            unwrap_or (option_map (λ z. with_statement m.body.statements j (replaced z (js ++ k ∷ ks) v)) o) m.body.statements
            ≡ unwrap_or (option_map (λ z. with_statement m.body.statements j (replaced z js (block ps b.temporaries (with_statement b.statements k (replaced s ks v)) b.tail))) o) m.body.statements
        by None q = refl
        by (Some z) q = ap (with_statement m.body.statements j) (ap (λ y. replaced y (js ++ k ∷ ks) v) (same q) ∙ replaced-append c js (k ∷ ks) old v (block-there p) ∙ ap (replaced c js) inner ∙ ap (λ y. replaced y js (block ps b.temporaries (with_statement b.statements k (replaced s ks v)) b.tail)) (sym (same q)))
          where
            same : Some z ≡ Some c → z ≡ c
            same q = cc

    abbrev new : SequenceOf N
    new = let_sequence k part x (replaced s ks (var x)) b

    pub block-extracted : temporary_extracted a m whole x ≡ Some (method_replaced m (j ∷ js) (block ps new.temporaries new.statements new.tail))
    block-extracted =
        ap (option_and_then (λ t. option_map (λ n. sequence_changed (declaring n t) (sequence_round m whole) (method_replaced m whole (var x))) (statement_round m whole))) block-part
        ∙ ap (λ n. option_map (λ l. sequence_changed (declaring l part) (take n whole) (method_replaced m whole (var x))) (slice_get whole n)) block-innermost
        ∙ (λ i. option_map (λ l. sequence_changed (declaring l part) (take-steps (j ∷ js) k ks i) (block-replaced (var x) i)) (step-behind (j ∷ js) k ks i))
        ∙ ap (λ o. Some (unwrap_or (option_map (λ t. method_replaced (method_replaced m (j ∷ js) middle) (j ∷ js) (block_changed (declaring k part) t)) o) (method_replaced m (j ∷ js) middle))) (part_in-replaced_in m.body (j ∷ js) old middle block-old)
        ∙ ap (λ z. Some (record m { body = z })) (replaced_in-replaced_in m.body (j ∷ js) middle (block ps new.temporaries new.statements new.tail))
      where
        declaring : ℕ → TreeOf N → SequenceOf N → SequenceOf N
        declaring k t b = let c : SequenceOf N = put_in k 0 (single (assign x t)) b in record c { temporaries = c.temporaries ++ x ∷ [] }

        middle : TreeOf N
        middle = block ps b.temporaries (with_statement b.statements k (replaced s ks (var x))) b.tail
