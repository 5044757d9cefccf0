-- What a law of the table makes of a node may stand where the node does, in each direction that certificates take.
use Rattle.std.proofs.Common.{◌≡◌, inr, ℕ, suc, ◌+◌, List, [], ◌∷◌, ◌++◌, Option, Some, None, refl, sym, ap, subst, arith}
use Rattle.std.specs.Prelude.{Bool, true, false, not, if◌then◌else◌, nat_eq, ◌-◌, option_map, codes}
use Rattle.std.specs.List.{AllByRecursion}
use Rattle.std.specs.Option.{option_map_or}
use Rattle.std.proofs.lemmas.Bool.{false≢true, eqb-true}
use Rattle.tree_model.specs.Tree.{Notes, TreeOf, var, literal, send, cascade, assign, block, brace, return, TreesOf, no_trees, more_trees, no_messages, more_messages, StatementsOf, no_statements, more_statements}
use Rattle.tree_model.specs.Bare.{bare, bare_statements}
use Rattle.grammar_model.specs.Checks.{Known}
use Rattle.reread_law.specs.WellFormed.{IsWord, IsKeywordText, LastOne, OneBefore, FitsParts, FitsArguments, IsValue, NoReturn, IsStatement}
use Rattle.pattern_model.specs.declared.kinds.MetaKind.{MetaKind}
use Rattle.pattern_model.specs.declared.kinds.MetaKind.TheVariants.{Expression, StatementList}
use Rattle.pattern_model.specs.Patterns.{MetaOf, PatternOf, block_like, no_statements_like, more_statements_like, metas}
use Rattle.pattern_model.specs.Bindings.{BoundOf, a_part, a_run, a_selector, a_keyword, a_message}
use Rattle.pattern_model.specs.Matches.{is_of_kind, is_expression}
use Rattle.pattern_model.specs.Fill.{part_in, run_in, append_statements, noted, filled}
use Rattle.pattern_model.specs.Named.{map_pattern}
use Rattle.certified_model.specs.LawSteps.{IsSingle}
use Rattle.certified_model.specs.Marks.{Text, Mark, plain, marked, marked_unary, marked_whole, in_keywords, undoubled, pattern_marked, mark_words}
use Rattle.certified_model.specs.Certificates.{laws, CertStep, numbered_law, goes_back, sides_of, is_statement_meta, stands, is_fit, plain_joined}
use Rattle.certified_rules.proofs.LawTurns.{of_law, IsKnown, single}
use Rattle.certified_rules.proofs.TableTurns.{numbered}
use Rattle.code_effect_laws.proofs.Proper.{IsProper, AreProper}
use Rattle.code_effect_laws.proofs.Stands.{statement_value, value_statement}
use Rattle.rule_kept.proofs.Kept.{Kept, KeptLines, fits_same, kept_block}
use Rattle.rule_kept.proofs.Bared.{filled_bare}
use Rattle.rule_kept.proofs.StepsKept.{made, lines_made, Steps, steps_itself, line_steps}

-- a block of one expression
abbrev one_block : TreeOf Text → TreeOf Text
one_block t = block [] [] (more_statements [] t no_statements) []

one_proper : (ks : List Known) (t : TreeOf Text) → IsProper ks t → IsStatement t no_statements → IsProper ks (one_block t)
one_proper ks t p s = (tt, tt, refl, (tt, p, s, tt), tt)

-- keywords with their arguments
keyword_of : (n : Text) → IsWord n → IsKeywordText (n ++ 58 ∷ [])
keyword_of n w = record { name = n; is = refl; word = w }

fits_one : (n : Text) → IsWord n → (t : TreeOf Text) → FitsArguments (n ++ 58 ∷ []) (more_trees t no_trees)
fits_one n w t = FitsParts (LastOne (keyword_of n w))

fits_two : (m n : Text) → IsWord m → IsWord n → (t u : TreeOf Text) → FitsArguments ((m ++ 58 ∷ []) ++ (n ++ 58 ∷ [])) (more_trees t (more_trees u no_trees))
fits_two m n v w t u = FitsParts (OneBefore (keyword_of m v) (LastOne (keyword_of n w)))

abbrev true_false : (t u : TreeOf Text) → FitsArguments (codes "ifTrue:ifFalse:") (more_trees t (more_trees u no_trees))
true_false t u = fits_two (codes "ifTrue") (codes "ifFalse") refl refl t u

abbrev false_true : (t u : TreeOf Text) → FitsArguments (codes "ifFalse:ifTrue:") (more_trees t (more_trees u no_trees))
false_true t u = fits_two (codes "ifFalse") (codes "ifTrue") refl refl t u

-- another message to one receiver
other_message : (c : TreeOf Text) (s t : Text) (xs ys : TreesOf Text) → FitsArguments t ys → ((ks : List Known) → AreProper ks xs → AreProper ks ys) → Kept (send c s xs) (send c t ys)
other_message c s t xs ys fits f = record { proper = λ ks h. (h.0, h.1, fits, f ks h.3); stands = inr (tt, tt, λ v. v) }

-- laws 7 and 8
inner_message : (k : Text) (a b u v : TreeOf Text) → NoReturn b → u ≡ one_block b → Kept (send (send a k (more_trees u no_trees)) k (more_trees v no_trees)) (send a k (more_trees (one_block (send b k (more_trees v no_trees))) no_trees))
inner_message k a b u v n e = record {
  proper = λ ks h.
      let inside = subst (λ (z : TreeOf Text). IsProper ks z) e h.0.3.0 in
      (h.0.0, h.0.1, fits_same h.2 (more_trees (one_block (send b k (more_trees v no_trees))) no_trees) tt, (one_proper ks (send b k (more_trees v no_trees)) (inside.3.1, n, h.2, h.3) tt, tt, tt));
  stands = inr (tt, tt, λ z. z);
}

-- law 9
in_turn : (m n : Text) (us ws : TreesOf Text) → KeptLines (more_statements [] (cascade (var (codes "self")) (more_messages m us (more_messages n ws no_messages))) no_statements) (more_statements [] (send (var (codes "self")) m us) (more_statements [] (send (var (codes "self")) n ws) no_statements))
in_turn m n us ws = record {
  proper = λ ks h. (tt, (refl, tt, h.1.3.0, h.1.3.1), tt, (tt, (refl, tt, h.1.3.2.0, h.1.3.2.1), tt, tt));
  ends = λ e. e;
}

in_cascade : (m n : Text) (us ws : TreesOf Text) → KeptLines (more_statements [] (send (var (codes "self")) m us) (more_statements [] (send (var (codes "self")) n ws) no_statements)) (more_statements [] (cascade (var (codes "self")) (more_messages m us (more_messages n ws no_messages))) no_statements)
in_cascade m n us ws = record {
  proper = λ ks h. (tt, (refl, refl, tt, (h.1.2, h.1.3, (h.3.1.2, h.3.1.3, tt))), tt, tt);
  ends = λ e. e;
}

-- law 10
abbrev chosen : TreeOf Text → TreeOf Text → TreeOf Text → TreeOf Text
chosen c t u = send c (codes "ifTrue:ifFalse:") (more_trees t (more_trees u no_trees))

outer_return : (c a b u v : TreeOf Text) → u ≡ one_block a → v ≡ one_block b → KeptLines (more_statements [] (chosen c (one_block (return a)) (one_block (return b))) no_statements) (more_statements [] (return (chosen c u v)) no_statements)
outer_return c a b u v p q = record {
  proper = λ ks h.
      let x = h.1.3.0.3.1 in
      let y = h.1.3.2.0.3.1 in (
        tt,
        (
          (
            h.1.0,
            h.1.1,
            true_false u v,
            (
              subst (λ (z : TreeOf Text). IsProper ks z) (sym p) (one_proper ks a x.0 (value_statement a no_statements x.1)),
              subst (λ (z : TreeOf Text). IsValue z) (sym p) tt,
              (
                subst (λ (z : TreeOf Text). IsProper ks z) (sym q) (one_proper ks b y.0 (value_statement b no_statements y.1)),
                subst (λ (z : TreeOf Text). IsValue z) (sym q) tt,
                tt,
              ),
            ),
          ),
          tt,
        ),
        tt,
        tt,
      );
  ends = λ e. e;
}

inner_returns : (c a b u v : TreeOf Text) → NoReturn a → NoReturn b → u ≡ one_block a → v ≡ one_block b → KeptLines (more_statements [] (return (chosen c u v)) no_statements) (more_statements [] (chosen c (one_block (return a)) (one_block (return b))) no_statements)
inner_returns c a b u v m n p q = record {
  proper = λ ks h.
      let x = (subst (λ (z : TreeOf Text). IsProper ks z) p h.1.0.3.0).3 in
      let y = (subst (λ (z : TreeOf Text). IsProper ks z) q h.1.0.3.2.0).3 in (
        tt,
        (
          h.1.0.0,
          h.1.0.1,
          true_false (one_block (return a)) (one_block (return b)),
          (
            one_proper ks (return a) (x.1, statement_value a no_statements m x.2) tt,
            tt,
            (one_proper ks (return b) (y.1, statement_value b no_statements n y.2) tt, tt, tt),
          ),
        ),
        tt,
        tt,
      );
  ends = λ e. e;
}

-- comments in front
noted_nothing : (ss : StatementsOf Mark) (e : Notes) → (noted [] ss e).0 ≡ ss
noted_nothing no_statements e = refl
noted_nothing (more_statements c t ss) e = refl

module _ (bound : MetaOf Text → BoundOf Text) (joined : List (List ℕ) → Text) (operands : (m : MetaOf Text) → not (is_statement_meta m.kind) ≡ true → NoReturn (bare (part_in m.name (bound m)))) where
  -- what is no statement alone makes no return
  makes_no_return : (t : TreeOf Mark) → stands t ≡ true → is_expression t ≡ true → NoReturn (made bound joined t)
  makes_no_return (var (plain n)) s e = tt
  makes_no_return (var (marked k n)) s e = operands (undoubled k n) s
  makes_no_return (var (marked_unary k n)) s e = tt
  makes_no_return (var (marked_whole k n)) s e = tt
  makes_no_return (var (in_keywords ks)) s e = tt
  makes_no_return (literal l) s e = tt
  makes_no_return (send r m ts) s e = tt
  makes_no_return (cascade r ms) s e = tt
  makes_no_return (assign n t) s e = tt
  makes_no_return (block ps ts ss c) s e = tt
  makes_no_return (brace ts) s e = tt
  makes_no_return (return t) s e = absurd (false≢true e)

  part_no_return : (n : Text) (b : BoundOf Mark) → is_fit b ≡ true → is_of_kind mark_words Expression b ≡ true → NoReturn (made bound joined (part_in (plain n) b))
  part_no_return n (a_part t) s e = makes_no_return t s e
  part_no_return n (a_run ss) s e = tt
  part_no_return n (a_selector m) s e = tt
  part_no_return n (a_keyword k) s e = tt
  part_no_return n (a_message m ts) s e = tt

  -- a block of one pattern that is no list of statements
  block_made : (p : PatternOf Text) → IsSingle p → filled_bare bound joined (block_like [] [] (more_statements_like [] p no_statements_like) []) ≡ one_block (filled_bare bound joined p)
  block_made p h = ap (λ (o : Option (MetaOf Text)). block [] [] (bare_statements (noted [] (option_map_or (λ m. append_statements (run_in (bound m)) no_statements) o (more_statements [] (filled bound joined p) no_statements)) []).0) []) h

  -- statements behind a run
  behind : (run xs ys : StatementsOf Mark) (e f : Notes) → KeptLines (lines_made bound joined xs e) (lines_made bound joined ys f) → KeptLines (lines_made bound joined (append_statements run xs) e) (lines_made bound joined (append_statements run ys) f)
  behind no_statements xs ys e f h = h
  behind (more_statements c t ss) xs ys e f h = line_steps bound joined c c t t (append_statements ss xs) (append_statements ss ys) e f (steps_itself bound joined t) (behind ss xs ys e f h)

  block_behind : (run xs ys : StatementsOf Mark) (e f : Notes) → KeptLines (lines_made bound joined xs (noted [] (append_statements run xs) e).1) (lines_made bound joined ys (noted [] (append_statements run ys) f).1) →
      Steps bound joined (block [] [] (noted [] (append_statements run xs) e).0 (noted [] (append_statements run xs) e).1) (block [] [] (noted [] (append_statements run ys) f).0 (noted [] (append_statements run ys) f).1)
  block_behind run xs ys e f h =
      let c : Notes = (noted [] (append_statements run xs) e).1 in
      let d : Notes = (noted [] (append_statements run ys) f).1 in
      subst (λ (z : StatementsOf Mark). Steps bound joined (block [] [] z c) (block [] [] (noted [] (append_statements run ys) f).0 d)) (sym (noted_nothing (append_statements run xs) e))
      (subst (λ (z : StatementsOf Mark). Steps bound joined (block [] [] (append_statements run xs) c) (block [] [] z d)) (sym (noted_nothing (append_statements run ys) f))
      (record {
        kept = kept_block [] [] (lines_made bound joined (append_statements run xs) c) (lines_made bound joined (append_statements run ys) d) (behind run xs ys c d h);
        lists = refl;
      }))

  -- a pair of sides of which the second may stand where the first does, whatever is bound
  abbrev side_of : (MetaOf Mark → BoundOf Mark) → PatternOf Text → TreeOf Mark
  side_of of p = filled of plain_joined (map_pattern plain p)

  abbrev pub KeepsLaw : PatternOf Text × PatternOf Text → Type 0
  KeepsLaw l = (of : MetaOf Mark → BoundOf Mark) → IsKnown of (metas (map_pattern plain l.0)) → Steps bound joined (side_of of l.0) (side_of of l.1)

  abbrev part : (MetaOf Mark → BoundOf Mark) → Text → TreeOf Mark
  part of n = part_in (plain n) (of (of_law Expression n))

  abbrev block_of_part : (of : MetaOf Mark → BoundOf Mark) → ((k : MetaKind) (n : Text) → is_fit (of (of_law k n)) ≡ true) → (n : Text) → filled_bare bound joined (block_like [] [] (more_statements_like [] (pattern_marked (part of n)) no_statements_like) []) ≡ one_block (made bound joined (part of n))
  block_of_part of fit n = block_made (pattern_marked (part of n)) (single of fit n)

  word_proper : (ks : List Known) (n : Text) → IsProper ks (var n) → IsValue (var n) → IsProper ks (one_block (var n))
  word_proper ks n p v = one_proper ks (var n) p v

  forth : AllByRecursion KeepsLaw laws
  forth = (
    (λ of k. record { kept = other_message _ _ _ _ _ (false_true _ _) (λ ks h. (h.2.0, h.2.1, (h.0, h.1, tt))); lists = refl }),
    (
      (λ of k. record { kept = other_message _ _ _ _ _ (true_false _ _) (λ ks h. (h.0, h.1, (word_proper ks (codes "nil") refl refl, tt, tt))); lists = refl }),
      (
        (λ of k. record { kept = other_message _ _ _ _ _ (true_false _ _) (λ ks h. (word_proper ks (codes "nil") refl refl, tt, (h.0, h.1, tt))); lists = refl }),
        (
          (λ of k. record { kept = other_message _ _ _ _ _ (true_false _ _) (λ ks h. (h.0, h.1, (word_proper ks (codes "false") refl refl, tt, tt))); lists = refl }),
          (
            (λ of k. record { kept = other_message _ _ _ _ _ (true_false _ _) (λ ks h. (word_proper ks (codes "true") refl refl, tt, (h.0, h.1, tt))); lists = refl }),
            (
              (λ of k. record { kept = other_message _ _ _ _ _ (false_true _ _) (λ ks h. (h.0, h.1, (word_proper ks (codes "nil") refl refl, tt, tt))); lists = refl }),
              (
                (λ of k. record { kept = inner_message (codes "and:") _ _ _ _ (part_no_return (codes "b") (of (of_law Expression (codes "b"))) (k.fit Expression (codes "b")) k.kinds.1.0) (block_of_part of k.fit (codes "b")); lists = refl }),
                (
                  (λ of k. record { kept = inner_message (codes "or:") _ _ _ _ (part_no_return (codes "b") (of (of_law Expression (codes "b"))) (k.fit Expression (codes "b")) k.kinds.1.0) (block_of_part of k.fit (codes "b")); lists = refl }),
                  (
                    (λ of k. block_behind (run_in (of (of_law StatementList (codes "s")))) _ _ [] [] (in_turn _ _ _ _)),
                    (
                      (λ of k. block_behind (run_in (of (of_law StatementList (codes "s")))) _ _ [] [] (outer_return _ _ _ _ _ (block_of_part of k.fit (codes "a")) (block_of_part of k.fit (codes "b")))),
                      tt,
                    ),
                  ),
                ),
              ),
            ),
          ),
        ),
      ),
    ),
  )

  -- what holds of each item and its number, from a first one on
  abbrev AllFrom : (ℕ → PatternOf Text × PatternOf Text → Type 0) → ℕ → List (PatternOf Text × PatternOf Text) → Type 0
  AllFrom P k [] = Unit {0}
  AllFrom P k (l ∷ ls) = P k l × AllFrom P (suc k) ls

  -- the other way round, where the law goes back
  abbrev KeepsBack : ℕ → PatternOf Text × PatternOf Text → Type 0
  KeepsBack n l = goes_back n ≡ true → KeepsLaw (l.1, l.0)

  back : AllFrom KeepsBack 1 laws
  back = (
    (λ g of k. record { kept = other_message _ _ _ _ _ (true_false _ _) (λ ks h. (h.2.0, h.2.1, (h.0, h.1, tt))); lists = refl }),
    (
      (λ g of k. record { kept = other_message _ _ _ _ _ (fits_one (codes "ifTrue") refl _) (λ ks h. (h.0, h.1, tt)); lists = refl }),
      (
        (λ g of k. record { kept = other_message _ _ _ _ _ (fits_one (codes "ifFalse") refl _) (λ ks h. (h.2.0, h.2.1, tt)); lists = refl }),
        (
          (λ g of k. record { kept = other_message _ _ _ _ _ (fits_one (codes "and") refl _) (λ ks h. (h.0, h.1, tt)); lists = refl }),
          (
            (λ g of k. record { kept = other_message _ _ _ _ _ (fits_one (codes "or") refl _) (λ ks h. (h.2.0, h.2.1, tt)); lists = refl }),
            (
              (λ g of k. record { kept = other_message _ _ _ _ _ (fits_one (codes "ifFalse") refl _) (λ ks h. (h.0, h.1, tt)); lists = refl }),
              (
                (λ g of k. absurd (false≢true g)),
                (
                  (λ g of k. absurd (false≢true g)),
                  (
                    (λ g of k. block_behind (run_in (of (of_law StatementList (codes "s")))) _ _ [] [] (in_cascade _ _ _ _)),
                    (
                      (λ g of k. block_behind (run_in (of (of_law StatementList (codes "s")))) _ _ [] [] (inner_returns _ _ _ _ _
                          (part_no_return (codes "a") (of (of_law Expression (codes "a"))) (k.fit Expression (codes "a")) k.kinds.1.1.0)
                          (part_no_return (codes "b") (of (of_law Expression (codes "b"))) (k.fit Expression (codes "b")) k.kinds.1.1.1.0)
                          (block_of_part of k.fit (codes "a")) (block_of_part of k.fit (codes "b")))),
                      tt,
                    ),
                  ),
                ),
              ),
            ),
          ),
        ),
      ),
    ),
  )

  record IsFrom (P : ℕ → PatternOf Text × PatternOf Text → Type 0) (k n : ℕ) (l : PatternOf Text × PatternOf Text) : Type 0 where
    before : ℕ
    is : n ≡ suc before
    holds : P (k + before) l

  numbered_from : (P : ℕ → PatternOf Text × PatternOf Text → Type 0) (k n : ℕ) (ls : List (PatternOf Text × PatternOf Text)) (l : PatternOf Text × PatternOf Text) → AllFrom P k ls → numbered_law n ls ≡ Some l → IsFrom P k n l
  numbered_from P k n [] l all e = let bad : ⊥ = cc in absurd bad
  numbered_from P k n (x ∷ xs) l all e = by (nat_eq n 1) refl e (λ f. numbered_from P (suc k) (n - 1) xs l all.1 f)
    where
      by : (b : Bool) → nat_eq n 1 ≡ b → (if b then Some x else numbered_law (n - 1) xs) ≡ Some l → (numbered_law (n - 1) xs ≡ Some l → IsFrom P (suc k) (n - 1) l) → IsFrom P k n l
      by true q f on =
          let same : x ≡ l = cc in
          let one : n ≡ 1 = eqb-true n 1 q in
          let zeroth : k ≡ k + 0 = omega arith in
          record { before = 0; is = one; holds = subst (λ (m : ℕ). P m l) zeroth (subst (P k) same all.0) }
      by false q f on =
          let r = on f in
          let was = r.is in
          let number : suc k + r.before ≡ k + suc r.before = omega arith in
          record { before = suc r.before; is = omega (arith, was); holds = subst (λ (m : ℕ). P m l) number r.holds }

  -- the sides of a step
  pub sides_kept : (x : CertStep) (l : PatternOf Text × PatternOf Text) → sides_of x ≡ Some l → KeepsLaw l
  sides_kept x l e = by x.forward (goes_back x.law) refl e
    where
      swapped : goes_back x.law ≡ true → (o : Option (PatternOf Text × PatternOf Text)) → numbered_law x.law laws ≡ o → option_map (λ k. (k.1, k.0)) o ≡ Some l → KeepsLaw l
      swapped g (Some k) q f =
          let same : ◌≡◌ {A = PatternOf Text × PatternOf Text} (k.1, k.0) l = cc in
          let r = numbered_from KeepsBack 1 x.law laws k back q in
          let was = r.is in
          let number : x.law ≡ 1 + r.before = omega (arith, was) in
          subst KeepsLaw same (r.holds (subst (λ (m : ℕ). goes_back m ≡ true) number g))
      swapped g None q f = let bad : ⊥ = cc in absurd bad

      by : (b c : Bool) → goes_back x.law ≡ c → (if b then numbered_law x.law laws else if c then option_map (λ k. (k.1, k.0)) (numbered_law x.law laws) else None) ≡ Some l → KeepsLaw l
      by true c g f = numbered KeepsLaw x.law laws l forth f
      by false true g f = swapped g (numbered_law x.law laws) refl f
      by false false g f = let bad : ⊥ = cc in absurd bad
