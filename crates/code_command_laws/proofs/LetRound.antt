-- The sequence that declares a temporary which is set once, and the statement there that sets it.
use Rattle.std.proofs.Common.{◌≡◌, ◌<◌, ◌≤◌, ℕ, zero, suc, ◌+◌, List, [], ◌∷◌, ◌++◌, length, Bool, true, false, Option, Some, None, option_and_then, option_map, refl, sym, ap, ◌∙◌, subst, arith, inl, inr, ◌⊎◌}
use Rattle.std.specs.Prelude.{if◌then◌else◌, unwrap_or}
use Rattle.std.specs.List.{AllByRecursion}
use Rattle.tree_model.specs.Tree.{TreeOf, var, literal, send, cascade, assign, block, brace, return, SequenceOf, MethodOf}
use Rattle.tree_model.specs.Path.{nth, statement_trees, part_at, part_in}
use Rattle.scope_model.specs.declared.local.Local.TheVariants.{Argument, Temporary, NotLocal}
use Rattle.scope_model.specs.Scope.{ScopeOf, PlacedScope, method_scope, is_among, local_by, own_scope, entered, scopes_round}
use Rattle.command_model.specs.Asked.{AskedOf}
use Rattle.command_model.specs.Places.{temporary_scope}
use Rattle.command_model.specs.Temporaries.{LetOf, let_of}
use Rattle.code_command_laws.specs.Round.{IsOpen, open_here, InBlock, this_block, block_below}
use Rattle.code_command_laws.proofs.PartRound.{BlockRound, node-round, block_with, scope_with, open-enters, step-in}
use Rattle.code_command_laws.proofs.OneNode.{LetStands, let-stands}

module _ {N : Type 0} where
  -- scopes to which fewer steps lead
  abbrev pub Outside : ℕ → List (PlacedScope N) → Type 0
  Outside d ps = AllByRecursion (λ (p : PlacedScope N). p.0 < d) ps

  pub both-outside : (d : ℕ) (ps qs : List (PlacedScope N)) → Outside d ps → Outside d qs → Outside d (ps ++ qs)
  both-outside d [] qs a b = b
  both-outside d (p ∷ ps) qs a b = (a.0, both-outside d ps qs a.1 b)

  pub own-outside : (d depth : ℕ) (t : TreeOf N) → depth < d → Outside d (own_scope depth t)
  own-outside d depth (var n) l = tt
  own-outside d depth (literal n) l = tt
  own-outside d depth (send r s args) l = tt
  own-outside d depth (cascade r ms) l = tt
  own-outside d depth (assign n t) l = tt
  own-outside d depth (block ps ts ss e) l = (l, tt)
  own-outside d depth (brace ts) l = tt
  own-outside d depth (return t) l = tt

  -- the scopes that a path enters into the innermost block: that block, and those round it
  pub record Entered (d : ℕ) (own : ScopeOf N) (scopes : List (PlacedScope N)) : Type 0 where
    pub others : List (PlacedScope N)
    pub same : scopes ≡ (d, own) ∷ others
    pub outside : Outside d others

  pub entered-scopes : {part : TreeOf N} {ps : List N} {b : SequenceOf N} {k : ℕ} {s : TreeOf N} {ks : List ℕ} {t : TreeOf N} {js : List ℕ} (depth : ℕ) → InBlock part ps b k s ks t js → Entered (depth + length js) (scope_with ps b) (entered depth t (js ++ k ∷ ks))
  entered-scopes {ps = ps} {b = b} {k = k} {s = s} {ks = ks} depth (this_block e p) = record {
    others = [];
    same = step-in depth (block_with ps b) s k ks e ∙ ap (λ l. l ++ own_scope depth (block_with ps b)) (open-enters (depth + 1) p) ∙ ap (λ n. (n, scope_with ps b) ∷ []) (none depth);
    outside = tt;
  }
    where
      none : (d : ℕ) → d ≡ d + 0
      none d = omega arith
  entered-scopes {ps = ps} {b = b} {k = k} {ks = ks} depth (block_below {t = t} {c = c} {j = j} {js = js} e p) =
      let r = entered-scopes (depth + 1) p in
      record {
        others = r.others ++ own_scope depth t;
        same = step-in depth t c j (js ++ k ∷ ks) e ∙ ap (λ l. l ++ own_scope depth t) r.same ∙ ap (λ n. (n, scope_with ps b) ∷ (r.others ++ own_scope depth t)) (next depth (length js));
        outside = both-outside (depth + suc (length js)) r.others (own_scope depth t) (subst (λ n. Outside n r.others) (next depth (length js)) r.outside) (own-outside (depth + suc (length js)) depth t (less depth (length js)));
      }
    where
      next : (d n : ℕ) → d + 1 + n ≡ d + suc n
      next d n = omega arith

      less : (d n : ℕ) → d < d + suc n
      less d n = omega arith

  -- a temporary is declared where its scope says
  temporary-outside : (same : N → N → Bool) (d : ℕ) (ps : List (PlacedScope N)) (n : N) (q : ℕ) → Outside d ps → temporary_scope (local_by same ps n) ≡ Some q → q < d
  temporary-outside same d [] n q a e = absurd (cc)
  temporary-outside same d (p ∷ ps) n q a e = by (is_among same p.1.arguments n) (is_among same p.1.temporaries n) e (λ g. temporary-outside same d ps n q a.1 g)
    where
      by : (b c : Bool) → temporary_scope (if b then Argument p.0 else if c then Temporary p.0 else local_by same ps n) ≡ Some q → (temporary_scope (local_by same ps n) ≡ Some q → q < d) → q < d
      by true c e ih = absurd (cc)
      by false true e ih = let here : p.0 ≡ q = cc in subst (λ z. z < d) here a.0
      by false false e ih = ih e

  pub temporary-first : (same : N → N → Bool) (d : ℕ) (own : ScopeOf N) (others : List (PlacedScope N)) (n : N) (q : ℕ) → Outside d others → d ≤ q → temporary_scope (local_by same ((d, own) ∷ others) n) ≡ Some q → (q ≡ d) × (is_among same own.temporaries n ≡ true) × (is_among same own.arguments n ≡ false)
  temporary-first same d own others n q a l e = by (is_among same own.arguments n) (is_among same own.temporaries n) refl refl e
    where
      by : (b c : Bool) → is_among same own.arguments n ≡ b → is_among same own.temporaries n ≡ c → temporary_scope (if b then Argument d else if c then Temporary d else local_by same others n) ≡ Some q → (q ≡ d) × (is_among same own.temporaries n ≡ true) × (is_among same own.arguments n ≡ false)
      by true c r s e = absurd (cc)
      by false true r s e = let here : d ≡ q = cc in (sym here, s, r)
      by false false r s e = let h = temporary-outside same d others n q a e in absurd (omega (arith, h, l))

-- where a name is no pseudo-variable, or there would be no scope
proper-local : {N : Type 0} (same : N → N → Bool) (ps : List (PlacedScope N)) (n : N) (q : ℕ) (b : Bool) → temporary_scope (if b then NotLocal else local_by same ps n) ≡ Some q → (b ≡ false) × (temporary_scope (local_by same ps n) ≡ Some q)
proper-local same ps n q true e = absurd (cc)
proper-local same ps n q false e = (refl, e)

module _ {N : Type 0} (a : AskedOf N) (m : MethodOf N) (x : N) (e : LetOf N) where
  abbrev same : N → N → Bool
  same = a.words.tests.same

  -- the sequence is the body, or that of a block
  pub data LetWhere (name : N) : Type 0 where
    in_the_body : e.sequence ≡ [] → nth (statement_trees m.body.statements) e.number ≡ Some (assign name e.value) → is_among same m.body.temporaries name ≡ true → is_among same m.arguments name ≡ false → LetWhere name
    in_a_block : (j : ℕ) (js : List ℕ) (c : TreeOf N) (ps : List N) (b : SequenceOf N) → e.sequence ≡ j ∷ js → nth (statement_trees m.body.statements) j ≡ Some c → InBlock (assign name e.value) ps b e.number (assign name e.value) [] c js →
        is_among same b.temporaries name ≡ true → is_among same ps name ≡ false → LetWhere name

  -- no step leads to the node itself
  part-there : (p c : TreeOf N) → IsOpen p c [] → c ≡ p
  part-there p c open_here = refl

  -- one step alone
  no-steps : (xs : List ℕ) (k : ℕ) → length (xs ++ k ∷ []) ≡ suc (length xs)
  no-steps [] k = refl
  no-steps (x ∷ xs) k = ap suc (no-steps xs k)

  some-tree : {t u : TreeOf N} → Some t ≡ Some u → t ≡ u
  some-tree q = cc

  module _ (h : LetStands a m x e) where
    abbrev part : TreeOf N
    part = assign h.name e.value

    -- the scopes round the statement
    scopes-say : (scopes : List (PlacedScope N)) → scopes_round (method_scope m) (e.sequence ++ e.number ∷ []) ≡ scopes → temporary_scope (local_by same scopes h.name) ≡ Some (length e.sequence)
    scopes-say scopes q = ap (λ l. temporary_scope (local_by same l h.name)) (sym q) ∙ (proper-local same (scopes_round (method_scope m) (e.sequence ++ e.number ∷ [])) h.name (length e.sequence) (a.words.tests.is_pseudo h.name) h.scope).1

    -- a statement of the body
    of-body : (j : ℕ) (c : TreeOf N) (ks : List ℕ) → e.sequence ++ e.number ∷ [] ≡ j ∷ ks → nth (statement_trees m.body.statements) j ≡ Some c → IsOpen part c ks → LetWhere h.name
    of-body j c ks q n p = by e.sequence refl ks q p
      where
        scopes : scopes_round (method_scope m) (e.sequence ++ e.number ∷ []) ≡ (0, method_scope m) ∷ []
        scopes = ap (scopes_round (method_scope m)) q ∙ ap (λ o. unwrap_or (option_map (λ z. entered 1 z ks) o) [] ++ (0, method_scope m) ∷ []) n ∙ ap (λ l. l ++ (0, method_scope m) ∷ []) (open-enters 1 p)

        at : (length e.sequence ≡ 0) × (is_among same m.body.temporaries h.name ≡ true) × (is_among same m.arguments h.name ≡ false)
        at = temporary-first same 0 (method_scope m) [] h.name (length e.sequence) tt (omega arith) (scopes-say ((0, method_scope m) ∷ []) scopes)

        by : (s : List ℕ) → e.sequence ≡ s → (ks : List ℕ) → e.sequence ++ e.number ∷ [] ≡ j ∷ ks → IsOpen part c ks → LetWhere h.name
        by [] r (k ∷ ks) q p = absurd (long (ap length (sym (ap (λ l. l ++ e.number ∷ []) r) ∙ q)))
          where
            long : 1 ≡ suc (suc (length ks)) → ⊥
            long z = omega (arith, z)
        by [] r [] q p =
            let number : e.number ≡ j = first (sym (ap (λ l. l ++ e.number ∷ []) r) ∙ q) in
            in_the_body r (ap (nth (statement_trees m.body.statements)) number ∙ n ∙ ap Some (part-there part c p)) at.1 at.2
          where
            first : e.number ∷ [] ≡ j ∷ [] → e.number ≡ j
            first z = cc
        by (s ∷ ss) r ks q p = absurd (long (ap length (sym r) ∙ at.0))
          where
            long : suc (length ss) ≡ 0 → ⊥
            long z = omega (arith, z)

    -- a statement of a block
    of-block : (j : ℕ) (c : TreeOf N) (ks : List ℕ) → e.sequence ++ e.number ∷ [] ≡ j ∷ ks → nth (statement_trees m.body.statements) j ≡ Some c → BlockRound part c ks → LetWhere h.name
    of-block j c ks q n r = by r.rest refl r.inside
      where
        path : e.sequence ++ e.number ∷ [] ≡ (j ∷ r.steps) ++ r.number ∷ r.rest
        path = q ∙ ap (λ l. j ∷ l) r.same

        inner : Entered (1 + length r.steps) (scope_with r.parameters r.sequence) (entered 1 c (r.steps ++ r.number ∷ r.rest))
        inner = entered-scopes 1 r.inside

        scopes : scopes_round (method_scope m) (e.sequence ++ e.number ∷ []) ≡ (1 + length r.steps, scope_with r.parameters r.sequence) ∷ (inner.others ++ (0, method_scope m) ∷ [])
        scopes =
            ap (scopes_round (method_scope m)) path ∙ ap (λ o. unwrap_or (option_map (λ z. entered 1 z (r.steps ++ r.number ∷ r.rest)) o) [] ++ (0, method_scope m) ∷ []) n
            ∙ ap (λ l. l ++ (0, method_scope m) ∷ []) inner.same

        count : length e.sequence ≡ suc (length r.steps + length r.rest)
        count = less (length e.sequence) (length r.steps) (length r.rest) (sym (no-steps e.sequence e.number) ∙ ap length path ∙ lengths (j ∷ r.steps) r.number r.rest)
          where
            lengths : (xs : List ℕ) (k : ℕ) (ys : List ℕ) → length (xs ++ k ∷ ys) ≡ length xs + suc (length ys)
            lengths [] k ys = none (length ys)
              where
                none : (n : ℕ) → suc n ≡ 0 + suc n
                none n = omega arith
            lengths (x ∷ xs) k ys = ap suc (lengths xs k ys) ∙ next (length xs) (length ys)
              where
                next : (n l : ℕ) → suc (n + suc l) ≡ suc n + suc l
                next n l = omega arith

            less : (n s l : ℕ) → suc n ≡ suc s + suc l → n ≡ suc (s + l)
            less n s l z = omega (arith, z)

        deep : 1 + length r.steps ≤ length e.sequence
        deep = subst (λ z. 1 + length r.steps ≤ z) (sym count) (enough (length r.steps) (length r.rest))
          where
            enough : (n l : ℕ) → 1 + n ≤ suc (n + l)
            enough n l = omega arith

        at : (length e.sequence ≡ 1 + length r.steps) × (is_among same r.sequence.temporaries h.name ≡ true) × (is_among same r.parameters h.name ≡ false)
        at = temporary-first same (1 + length r.steps) (scope_with r.parameters r.sequence) (inner.others ++ (0, method_scope m) ∷ []) h.name (length e.sequence) (both-outside (1 + length r.steps) inner.others ((0, method_scope m) ∷ []) inner.outside (omega arith, tt)) deep
            (scopes-say _ scopes)

        by : (rest : List ℕ) → r.rest ≡ rest → InBlock part r.parameters r.sequence r.number r.statement rest c r.steps → LetWhere h.name
        by (z ∷ zs) w p = absurd (long (length e.sequence) (length r.steps) (length zs) at.0 (count ∙ ap (λ l. suc (length r.steps + length l)) w))
          where
            long : (k n l : ℕ) → k ≡ 1 + n → k ≡ suc (n + suc l) → ⊥
            long k n l z y = omega (arith, z, y)
        by [] w p =
            let ends = last-two e.sequence (j ∷ r.steps) e.number r.number (path ∙ ap (λ l. (j ∷ r.steps) ++ r.number ∷ l) w) in
            in_a_block j r.steps c r.parameters r.sequence ends.0 n (subst (λ k. InBlock part r.parameters r.sequence k part [] c r.steps) (sym ends.1) (whole p)) at.1 at.2
          where
            last-two : (xs ys : List ℕ) (k l : ℕ) → xs ++ k ∷ [] ≡ ys ++ l ∷ [] → (xs ≡ ys) × (k ≡ l)
            last-two [] [] k l z = (refl, cc)
            last-two [] (y ∷ []) k l z = absurd (short (ap length z))
              where
                short : suc zero ≡ suc (suc zero) → ⊥
                short q = omega (arith, q)
            last-two [] (y ∷ y2 ∷ ys) k l z = absurd (short (length (ys ++ l ∷ [])) (ap length z))
              where
                short : (n : ℕ) → suc zero ≡ suc (suc n) → ⊥
                short n q = omega (arith, q)
            last-two (x ∷ xs) [] k l z = absurd (short xs (ap length z))
              where
                short : (xs : List ℕ) → suc (length (xs ++ k ∷ [])) ≡ suc zero → ⊥
                short xs q = let h = no-steps xs k in omega (arith, q, h)
            last-two (x ∷ xs) (y ∷ ys) k l z = let r = last-two xs ys k l (tails z) in ((λ i. heads z i ∷ r.0 i), r.1)
              where
                tails : x ∷ (xs ++ k ∷ []) ≡ y ∷ (ys ++ l ∷ []) → xs ++ k ∷ [] ≡ ys ++ l ∷ []
                tails q = cc

                heads : x ∷ (xs ++ k ∷ []) ≡ y ∷ (ys ++ l ∷ []) → x ≡ y
                heads q = cc

            whole : {t : TreeOf N} {js : List ℕ} → InBlock part r.parameters r.sequence r.number r.statement [] t js → InBlock part r.parameters r.sequence r.number part [] t js
            whole (this_block g p) = this_block (g ∙ ap Some (part-there part r.statement p)) open_here
            whole (block_below g p) = block_below g (whole p)

  pub let-where : let_of a m x ≡ Some e → (h : LetStands a m x e) × LetWhere h.name
  let-where q =
      let h = let-stands a m x e q in
      (h, by h (e.sequence ++ e.number ∷ []) refl h.there)
    where
      by : (h : LetStands a m x e) (path : List ℕ) → e.sequence ++ e.number ∷ [] ≡ path → part_in m.body path ≡ Some (assign h.name e.value) → LetWhere h.name
      by h [] r g = absurd (cc)
      by h (j ∷ ks) r g = at (nth (statement_trees m.body.statements) j) refl g
        where
          at : (o : Option (TreeOf N)) → nth (statement_trees m.body.statements) j ≡ o → option_and_then (λ c. part_at c ks) o ≡ Some (assign h.name e.value) → LetWhere h.name
          at None n g = absurd (cc)
          at (Some c) n g = further (node-round (assign h.name e.value) c ks g)
            where
              further : IsOpen (assign h.name e.value) c ks ⊎ BlockRound (assign h.name e.value) c ks → LetWhere h.name
              further (inl p) = of-body h j c ks r n p
              further (inr p) = of-block h j c ks r n p
