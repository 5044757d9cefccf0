-- Where classes are put in order, those of the kernel keep theirs.
use Rattle.std.proofs.Common.{◌≡◌, ℕ, zero, suc, ◌≤◌, Bool, true, false, cond, List, [], ◌∷◌, ◌++◌, length, filter, find, Option, Some, None, refl, sym, ap, subst, ◌∙◌, append_assoc, true≢false, arith, length-append}
use Rattle.std.specs.List.{AllByRecursion}
use Rattle.std.specs.Option.{option_map_or}
use Rattle.std.proofs.lemmas.List.{append-nil}
use Rattle.std.proofs.lemmas.List.Elements.{filter-append}
use Rattle.rb_base.specs.Names.{text_eq}
use Rattle.rb_base.proofs.NamesLemmas.{text_eq-refl}
use Rattle.image_model.specs.Image.{ClassOf}
use Rattle.file_model.specs.Filing.{Text}
use Rattle.file_model.specs.Hierarchy.{can_follow, without_first, settle_behind, settled}
use Rattle.file_laws.specs.Settling.{IsTakenInTurn}
use Rattle.file_laws.proofs.Moves.{text_equal, stands_left, turn_more}
use Rattle.file_laws.proofs.SettledAgain.{IsSplit, split, none_found}
use Rattle.file_laws.proofs.Sound.{All-filter}

-- whether a class is one of the kernel
abbrev pub of_kernel : ClassOf Text → Bool
of_kernel c = c.kernel

-- classes of which none can be taken have none of the kernel in front
none_of_kernel : (taken some more : List (ClassOf Text)) → AllByRecursion (λ (c : ClassOf Text). can_follow text_eq taken c ≡ false) some → IsTakenInTurn text_eq taken (filter of_kernel some ++ more) → filter of_kernel some ≡ []
none_of_kernel taken some more fail turn = by (filter of_kernel some) refl (All-filter (λ (c : ClassOf Text). can_follow text_eq taken c ≡ false) of_kernel some fail) turn
  where
    by : (cs : List (ClassOf Text)) → filter of_kernel some ≡ cs → AllByRecursion (λ (c : ClassOf Text). can_follow text_eq taken c ≡ false) cs → IsTakenInTurn text_eq taken (cs ++ more) → filter of_kernel some ≡ []
    by [] e f t = e
    by (c ∷ cs) e f t = absurd (true≢false (sym t.0 ∙ f.0))

kernel_settle : (k : ℕ) (taken left : List (ClassOf Text)) → length left ≤ k → IsTakenInTurn text_eq taken (filter of_kernel left) → filter of_kernel (settle_behind text_eq k taken left) ≡ filter of_kernel taken ++ filter of_kernel left
kernel_settle zero taken [] few turn = sym (append-nil (filter of_kernel taken))
kernel_settle zero taken (c ∷ cs) few turn = absurd (omega (arith, few))
kernel_settle (suc k) taken left few turn = by (find (can_follow text_eq taken) left) refl (λ c rest less t. kernel_settle k (taken ++ c ∷ []) rest less t)
  where
    finish : (c : ClassOf Text) (s : IsSplit (can_follow text_eq taken) left c) (b : Bool) → of_kernel c ≡ b
        → ((rest : List (ClassOf Text)) → length rest ≤ k → IsTakenInTurn text_eq (taken ++ c ∷ []) (filter of_kernel rest) → filter of_kernel (settle_behind text_eq k (taken ++ c ∷ []) rest) ≡ filter of_kernel (taken ++ c ∷ []) ++ filter of_kernel rest)
        → filter of_kernel (settle_behind text_eq k (taken ++ c ∷ []) (without_first (can_follow text_eq taken) left)) ≡ filter of_kernel taken ++ filter of_kernel left
    finish c s true user next =
        let mine : filter of_kernel (c ∷ s.back) ≡ c ∷ filter of_kernel s.back = ap (λ (b : Bool). cond b (c ∷ filter of_kernel s.back) (filter of_kernel s.back)) user in
        let parts : filter of_kernel left ≡ filter of_kernel s.front ++ (c ∷ filter of_kernel s.back) =
        ap (filter of_kernel) s.whole ∙ filter-append of_kernel s.front (c ∷ s.back) ∙ ap (λ (cs : List (ClassOf Text)). filter of_kernel s.front ++ cs) mine in
        let in_parts : IsTakenInTurn text_eq taken (filter of_kernel s.front ++ (c ∷ filter of_kernel s.back)) = subst (IsTakenInTurn text_eq taken) parts turn in
        let none : filter of_kernel s.front ≡ [] = none_of_kernel taken s.front (c ∷ filter of_kernel s.back) s.fail in_parts in
        let whole : filter of_kernel left ≡ c ∷ filter of_kernel s.back = parts ∙ ap (λ (cs : List (ClassOf Text)). cs ++ (c ∷ filter of_kernel s.back)) none in
        let others : filter of_kernel (s.front ++ s.back) ≡ filter of_kernel s.back = filter-append of_kernel s.front s.back ∙ ap (λ (cs : List (ClassOf Text)). cs ++ filter of_kernel s.back) none in
        let behind : IsTakenInTurn text_eq taken (c ∷ filter of_kernel s.back) = subst (IsTakenInTurn text_eq taken) whole turn in
        let last : filter of_kernel (c ∷ []) ≡ c ∷ [] = ap (λ (b : Bool). cond b (c ∷ []) []) user in
        ap (λ (rest : List (ClassOf Text)). filter of_kernel (settle_behind text_eq k (taken ++ c ∷ []) rest)) s.without
        ∙ next (s.front ++ s.back) (fewer c s) (subst (IsTakenInTurn text_eq (taken ++ c ∷ [])) (sym others) behind.1)
        ∙ (λ i. (filter-append of_kernel taken (c ∷ []) ∙ ap (λ (cs : List (ClassOf Text)). filter of_kernel taken ++ cs) last) i ++ others i)
        ∙ append_assoc (filter of_kernel taken) (c ∷ []) (filter of_kernel s.back)
        ∙ ap (λ (cs : List (ClassOf Text)). filter of_kernel taken ++ cs) (sym whole)
      where
        fewer : (d : ClassOf Text) (t : IsSplit (can_follow text_eq taken) left d) → length (t.front ++ t.back) ≤ k
        fewer d t = omega (arith, few, ap length t.whole, length-append t.front (d ∷ t.back), length-append t.front t.back)
    finish c s false user next =
        let mine : filter of_kernel (c ∷ s.back) ≡ filter of_kernel s.back = ap (λ (b : Bool). cond b (c ∷ filter of_kernel s.back) (filter of_kernel s.back)) user in
        let whole : filter of_kernel left ≡ filter of_kernel (s.front ++ s.back) =
        ap (filter of_kernel) s.whole ∙ filter-append of_kernel s.front (c ∷ s.back) ∙ ap (λ (cs : List (ClassOf Text)). filter of_kernel s.front ++ cs) mine ∙ sym (filter-append of_kernel s.front s.back) in
        let last : filter of_kernel (c ∷ []) ≡ [] = ap (λ (b : Bool). cond b (c ∷ []) []) user in
        let before : filter of_kernel (taken ++ c ∷ []) ≡ filter of_kernel taken = filter-append of_kernel taken (c ∷ []) ∙ ap (λ (cs : List (ClassOf Text)). filter of_kernel taken ++ cs) last ∙ append-nil (filter of_kernel taken) in
        ap (λ (rest : List (ClassOf Text)). filter of_kernel (settle_behind text_eq k (taken ++ c ∷ []) rest)) s.without
        ∙ next (s.front ++ s.back) (fewer c s) (turn_more text_eq text_eq-refl text_equal taken (taken ++ c ∷ []) (filter of_kernel (s.front ++ s.back)) (λ t h. stands_left text_eq text_eq-refl text_equal t taken (c ∷ []) h) (subst (IsTakenInTurn text_eq taken) whole turn))
        ∙ (λ i. before i ++ sym whole i)
      where
        fewer : (d : ClassOf Text) (t : IsSplit (can_follow text_eq taken) left d) → length (t.front ++ t.back) ≤ k
        fewer d t = omega (arith, few, ap length t.whole, length-append t.front (d ∷ t.back), length-append t.front t.back)

    by : (o : Option (ClassOf Text)) → find (can_follow text_eq taken) left ≡ o
        → ((c : ClassOf Text) (rest : List (ClassOf Text)) → length rest ≤ k → IsTakenInTurn text_eq (taken ++ c ∷ []) (filter of_kernel rest) → filter of_kernel (settle_behind text_eq k (taken ++ c ∷ []) rest) ≡ filter of_kernel (taken ++ c ∷ []) ++ filter of_kernel rest)
        → filter of_kernel (option_map_or (λ c. settle_behind text_eq k (taken ++ c ∷ []) (without_first (can_follow text_eq taken) left)) o taken) ≡ filter of_kernel taken ++ filter of_kernel left
    by None e next =
        let none : filter of_kernel left ≡ [] = none_of_kernel taken left [] (none_found (can_follow text_eq taken) left e) (subst (IsTakenInTurn text_eq taken) (sym (append-nil (filter of_kernel left))) turn) in
        sym (append-nil (filter of_kernel taken)) ∙ ap (λ (cs : List (ClassOf Text)). filter of_kernel taken ++ cs) (sym none)
    by (Some c) e next = finish c (split (can_follow text_eq taken) left c e) (of_kernel c) refl (next c)

-- classes that are put in order
pub kernel_settled : (cs : List (ClassOf Text)) → IsTakenInTurn text_eq [] (filter of_kernel cs) → filter of_kernel (settled text_eq cs) ≡ filter of_kernel cs
kernel_settled cs turn = kernel_settle (length cs) [] cs (omega arith) turn
