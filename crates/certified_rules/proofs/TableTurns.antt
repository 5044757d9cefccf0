-- Each law of the table is a step on what its sides match, in both directions.
use Rattle.std.proofs.Common.{◌≡◌, ℕ, List, [], ◌∷◌, Option, Some, None, refl, subst}
use Rattle.std.specs.Prelude.{Bool, true, false, if◌then◌else◌, nat_eq, ◌-◌, option_map, codes}
use Rattle.std.specs.List.{AllByRecursion}
use Rattle.certified_model.specs.LawSteps.{in_block_step, step_1, step_back_1, step_2, step_back_2, step_3, step_back_3, step_4, step_back_4, step_5, step_back_5, step_6, step_back_6, step_7, step_back_7, step_8, step_back_8}
use Rattle.pattern_model.specs.declared.kinds.MetaKind.TheVariants.{Unary}
use Rattle.pattern_model.specs.Patterns.{PatternOf}
use Rattle.certified_model.specs.Marks.{Text}
use Rattle.certified_model.specs.Certificates.{laws, CertStep, numbered_law, goes_back, sides_of}
use Rattle.certified_rules.proofs.StepsAt.{stays, lines-stay}
use Rattle.certified_rules.proofs.LawTurns.{of_law, Turns, part-unary, noted-behind, run, cascaded, in_turn, inner_returns, outer_return, single, ten-forth, ten-back, nine-forth, nine-back}

all-forth : AllByRecursion Turns laws
all-forth = (
  record { lawful = (refl, tt, ((refl, tt, refl), ((refl, tt, refl), tt))); turns = λ bound k. step_1 _ _ _ _ (stays _) (lines-stay _) (lines-stay _) },
  (
    record { lawful = (refl, tt, ((refl, tt, refl), tt)); turns = λ bound k. step_2 _ _ _ _ (stays _) (lines-stay _) },
    (
      record { lawful = (refl, tt, ((refl, tt, refl), tt)); turns = λ bound k. step_3 _ _ _ _ (stays _) (lines-stay _) },
      (
        record { lawful = (refl, tt, ((refl, tt, refl), tt)); turns = λ bound k. step_4 _ _ _ _ (stays _) (lines-stay _) },
        (
          record { lawful = (refl, tt, ((refl, tt, refl), tt)); turns = λ bound k. step_5 _ _ _ _ (stays _) (lines-stay _) },
          (
            record { lawful = (refl, tt, ((refl, tt, refl), tt)); turns = λ bound k. step_6 _ _ _ _ (stays _) (lines-stay _) },
            (
              record { lawful = ((refl, tt, ((refl, tt, refl), tt)), tt, ((refl, tt, refl), tt)); turns = λ bound k. step_7 _ _ _ _ _ _ _ _ (stays _) (stays _) (stays _) (single bound k.fit (codes "b")) (single bound k.fit (codes "c")) },
              (
                record { lawful = ((refl, tt, ((refl, tt, refl), tt)), tt, ((refl, tt, refl), tt)); turns = λ bound k. step_8 _ _ _ _ _ _ _ _ (stays _) (stays _) (stays _) (single bound k.fit (codes "b")) (single bound k.fit (codes "c")) },
                (
                  record {
                    lawful = (refl, ((tt, ((refl, refl), tt, ((refl, refl), tt, tt))), tt, refl), refl);
                    turns = λ bound k.
                        let lines = nine-forth bound (part-unary (codes "m") (bound (of_law Unary (codes "m"))) k.kinds.1.0) (part-unary (codes "n") (bound (of_law Unary (codes "n"))) k.kinds.1.1.0) in
                        in_block_step [] [] _ _ (noted-behind (run bound) (cascaded bound) (in_turn bound) [] lines lines);
                  },
                  (
                    record {
                      lawful = (refl, ((refl, tt, ((refl, tt, refl), ((refl, tt, refl), tt))), tt, refl), refl);
                      turns = λ bound k. in_block_step [] [] _ _ (noted-behind (run bound) (inner_returns bound) (outer_return bound) [] (ten-forth bound k.fit) (ten-forth bound k.fit));
                    },
                    tt,
                  ),
                ),
              ),
            ),
          ),
        ),
      ),
    ),
  ),
)

all-back : AllByRecursion (λ l. Turns (l.1, l.0)) laws
all-back = (
  record { lawful = (refl, tt, ((refl, tt, refl), ((refl, tt, refl), tt))); turns = λ bound k. step_back_1 _ _ _ _ (stays _) (lines-stay _) (lines-stay _) },
  (
    record { lawful = (refl, tt, ((refl, tt, refl), ((tt, tt, refl), tt))); turns = λ bound k. step_back_2 _ _ _ _ (stays _) (lines-stay _) },
    (
      record { lawful = (refl, tt, ((tt, tt, refl), ((refl, tt, refl), tt))); turns = λ bound k. step_back_3 _ _ _ _ (stays _) (lines-stay _) },
      (
        record { lawful = (refl, tt, ((refl, tt, refl), ((tt, tt, refl), tt))); turns = λ bound k. step_back_4 _ _ _ _ (stays _) (lines-stay _) },
        (
          record { lawful = (refl, tt, ((tt, tt, refl), ((refl, tt, refl), tt))); turns = λ bound k. step_back_5 _ _ _ _ (stays _) (lines-stay _) },
          (
            record { lawful = (refl, tt, ((refl, tt, refl), ((tt, tt, refl), tt))); turns = λ bound k. step_back_6 _ _ _ _ (stays _) (lines-stay _) },
            (
              record { lawful = (refl, tt, (((refl, tt, ((refl, tt, refl), tt)), tt, refl), tt)); turns = λ bound k. step_back_7 _ _ _ _ _ _ _ _ (stays _) (stays _) (stays _) (single bound k.fit (codes "b")) (single bound k.fit (codes "c")) },
              (
                record { lawful = (refl, tt, (((refl, tt, ((refl, tt, refl), tt)), tt, refl), tt)); turns = λ bound k. step_back_8 _ _ _ _ _ _ _ _ (stays _) (stays _) (stays _) (single bound k.fit (codes "b")) (single bound k.fit (codes "c")) },
                (
                  record {
                    lawful = (refl, ((tt, (refl, refl), tt), ((tt, (refl, refl), tt), tt, refl), refl), refl);
                    turns = λ bound k.
                        let lines = nine-back bound (part-unary (codes "m") (bound (of_law Unary (codes "m"))) k.kinds.1.0) (part-unary (codes "n") (bound (of_law Unary (codes "n"))) k.kinds.1.1.0) in
                        in_block_step [] [] _ _ (noted-behind (run bound) (in_turn bound) (cascaded bound) [] lines lines);
                  },
                  (
                    record {
                      lawful = (refl, ((refl, tt, ((refl, tt, refl), ((refl, tt, refl), tt))), tt, refl), refl);
                      turns = λ bound k. in_block_step [] [] _ _ (noted-behind (run bound) (outer_return bound) (inner_returns bound) [] (ten-back bound k.fit) (ten-back bound k.fit));
                    },
                    tt,
                  ),
                ),
              ),
            ),
          ),
        ),
      ),
    ),
  ),
)

-- what holds of each law holds of the law of a number
pub numbered : (P : PatternOf Text × PatternOf Text → Type 0) (n : ℕ) (ls : List (PatternOf Text × PatternOf Text)) (l : PatternOf Text × PatternOf Text) → AllByRecursion P ls → numbered_law n ls ≡ Some l → P l
numbered P n [] l all e = let bad : ⊥ = cc in absurd bad
numbered P n (x ∷ xs) l all e = by (nat_eq n 1) e (λ f. numbered P (n - 1) xs l all.1 f)
  where
    by : (b : Bool) → (if b then Some x else numbered_law (n - 1) xs) ≡ Some l → (numbered_law (n - 1) xs ≡ Some l → P l) → P l
    by true f on = let same : x ≡ l = cc in subst P same all.0
    by false f on = on f

-- the sides of a step
pub sides-turn : (x : CertStep) (l : PatternOf Text × PatternOf Text) → sides_of x ≡ Some l → Turns l
sides-turn x l e = by x.forward (goes_back x.law) e
  where
    swapped : (o : Option (PatternOf Text × PatternOf Text)) → numbered_law x.law laws ≡ o → option_map (λ k. (k.1, k.0)) o ≡ Some l → Turns l
    swapped (Some k) q f = let same : ◌≡◌ {A = PatternOf Text × PatternOf Text} (k.1, k.0) l = cc in subst Turns same (numbered (λ k. Turns (k.1, k.0)) x.law laws k all-back q)
    swapped None q f = let bad : ⊥ = cc in absurd bad

    by : (b c : Bool) → (if b then numbered_law x.law laws else if c then option_map (λ k. (k.1, k.0)) (numbered_law x.law laws) else None) ≡ Some l → Turns l
    by true c f = numbered Turns x.law laws l all-forth f
    by false true f = swapped (numbered_law x.law laws) refl f
    by false false f = let bad : ⊥ = cc in absurd bad
