-- The steps of a certificate that derives a rule are steps from its pattern to its replacement.
use Rattle.std.proofs.Common.{◌≡◌, List, [], ◌∷◌, ◌++◌, Option, Some, None, refl, sym, ap, ◌∙◌, subst}
use Rattle.std.specs.Prelude.{ℕ, suc, Bool, true, false, if◌then◌else◌, is_none, option_map, option_and_then}
use Rattle.std.specs.List.{list_all, list_any}
use Rattle.std.specs.Option.{option_map_or}
use Rattle.std.proofs.lemmas.Bool.{and_parts, false≢true}
use Rattle.tree_model.specs.Tree.{TreeOf}
use Rattle.tree_model.specs.Bare.{bare, SameBare}
use Rattle.tree_model.specs.Path.{part_at, replaced}
use Rattle.tree_model.proofs.Parts.{replaced-part_at}
use Rattle.same_trees.specs.SameTrees.{same_tree}
use Rattle.same_trees.proofs.Told.{tree_told}
use Rattle.run_model.specs.Values.{Name}
use Rattle.pattern_model.specs.declared.kinds.MetaKind.{MetaKind}
use Rattle.pattern_model.specs.Patterns.{PatternOf, metas}
use Rattle.pattern_model.specs.Bindings.{BindingOf, same_meta, bound_of, each_once}
use Rattle.pattern_model.specs.Matches.{is_of_kind, Matches}
use Rattle.pattern_model.specs.MatchTree.{match_tree}
use Rattle.pattern_model.specs.Fill.{fill}
use Rattle.pattern_model.specs.Named.{map_pattern}
use Rattle.pattern_laws.proofs.SameMetas.{all_weaker, once_there}
use Rattle.pattern_laws.proofs.Gathered.{bound_right}
use Rattle.pattern_laws.proofs.Matching.{match_sound}
use Rattle.certified_model.specs.LawSteps.{Stepped, SteppedAlong}
use Rattle.certified_model.specs.Marks.{Text, Mark, plain, is_same_mark, marked_tree, pattern_marked, mark_words}
use Rattle.certified_model.specs.Certificates.{CertStep, is_fit, plain_joined, turned, sides_of, take_step, stuck_from, derives}
use Rattle.certified_rules.proofs.MarkWords.{mark_words_are}
use Rattle.certified_rules.proofs.StepsAt.{IsStep, to-bare, from-bare, replaced-steps}
use Rattle.certified_rules.proofs.LawTurns.{of_law, IsKnown, Turns}
use Rattle.certified_rules.proofs.TableTurns.{sides-turn}
use Rattle.certified_rules.proofs.FilledAlike.{plainly}

-- steps lead from one pattern to another
pub record IsReached (p q : PatternOf Name) : Type 0 where
  pub between : List (PatternOf Name)
  pub steps : SteppedAlong p between q

along-then : (p q r : PatternOf Name) (ps qs : List (PatternOf Name)) → SteppedAlong p ps q → SteppedAlong q qs r → SteppedAlong p (ps ++ q ∷ qs) r
along-then p q r [] qs h k = (h, k)
along-then p q r (x ∷ ps) qs h k = (h.0, along-then x q r ps qs h.1 k)

reached-then : {p q r : PatternOf Name} → IsReached p q → IsReached q r → IsReached p r
reached-then {p} {q} {r} h k = record { between = h.between ++ q ∷ k.between; steps = along-then p q r h.between k.between h.steps k.steps }

one-step : {p q : PatternOf Name} → Stepped p q → IsReached p q
one-step h = record { between = []; steps = h }

-- trees that are the same but for comments
same-reached : (t u : TreeOf Mark) → SameBare t u → IsReached (pattern_marked t) (pattern_marked u)
same-reached t u e = reached-then (one-step (to-bare t)) (one-step (subst (λ (x : TreeOf Mark). Stepped (pattern_marked x) (pattern_marked u)) (sym e) (from-bare u)))

-- what is bound is fit, where all bindings are
pub bound-fit : (bs : List (BindingOf Mark)) → list_all (λ (x : BindingOf Mark). is_fit x.bound) bs ≡ true → (k : MetaKind) (n : Text) → is_fit (bound_of is_same_mark bs (of_law k n)) ≡ true
bound-fit [] e k n = refl
bound-fit (b ∷ bs) e k n =
    let h = and_parts (is_fit b.bound) (list_all (λ (x : BindingOf Mark). is_fit x.bound) bs) e in
    by (same_meta is_same_mark b.meta (of_law k n)) h.0 (bound-fit bs h.1 k n)
  where
    by : (c : Bool) → is_fit b.bound ≡ true → is_fit (bound_of is_same_mark bs (of_law k n)) ≡ true → is_fit (if c then b.bound else bound_of is_same_mark bs (of_law k n)) ≡ true
    by true f g = f
    by false f g = g

-- the node is another one but for comments, from which the turned node is a step
record IsTurned (a v : TreeOf Mark) : Type 0 where
  node : TreeOf Mark
  same : SameBare a node
  step : IsStep node v

turned-step : (l : PatternOf Text × PatternOf Text) → Turns l → (a v : TreeOf Mark) → turned l a ≡ Some v → IsTurned a v
turned-step l h a v e = by (match_tree mark_words (map_pattern plain l.0) a) refl e
  where
    left : PatternOf Mark
    left = map_pattern plain l.0

    known : (bs : List (BindingOf Mark)) → Matches mark_words plain_joined left a bs → list_all (λ (x : BindingOf Mark). is_fit x.bound) bs ≡ true → IsKnown (bound_of is_same_mark bs) (metas left)
    known bs m fit = record {
      fit = bound-fit bs fit;
      kinds = all_weaker (λ k. list_any (λ n. same_meta is_same_mark n k) (each_once is_same_mark (metas left)) ≡ true) (λ k. is_of_kind mark_words k.kind (bound_of is_same_mark bs k) ≡ true) (metas left)
          (λ k f. bound_right mark_words plain_joined mark_words_are bs m.in_kind k (ap (list_any (λ n. same_meta is_same_mark n k)) m.binds ∙ f))
          (once_there is_same_mark mark_words_are.refl mark_words_are.told (metas left));
    }

    fitting : (bs : List (BindingOf Mark)) → match_tree mark_words left a ≡ Some bs → (c : Bool) → list_all (λ (x : BindingOf Mark). is_fit x.bound) bs ≡ c →
        (if c then Some (fill is_same_mark plain_joined bs (map_pattern plain l.1)) else None) ≡ Some v → IsTurned a v
    fitting bs q true f g =
        let m = match_sound mark_words plain_joined mark_words_are left a h.lawful bs q in
        let same : fill is_same_mark plain_joined bs (map_pattern plain l.1) ≡ v = cc in
        record { node = fill is_same_mark plain_joined bs left; same = sym m.fills; step = subst (IsStep (fill is_same_mark plain_joined bs left)) same (h.turns (bound_of is_same_mark bs) (known bs m f)) }
    fitting bs q false f g = let bad : ⊥ = cc in absurd bad

    by : (o : Option (List (BindingOf Mark))) → match_tree mark_words left a ≡ o →
        option_and_then (λ bs. if list_all (λ (x : BindingOf Mark). is_fit x.bound) bs then Some (fill is_same_mark plain_joined bs (map_pattern plain l.1)) else None) o ≡ Some v → IsTurned a v
    by (Some bs) q g = fitting bs q (list_all (λ (x : BindingOf Mark). is_fit x.bound) bs) refl g
    by None q g = let bad : ⊥ = cc in absurd bad

-- one step of a certificate
taken-step : (x : CertStep) (t u : TreeOf Mark) → take_step x t ≡ Some u → IsReached (pattern_marked t) (pattern_marked u)
taken-step x t u e = by (sides_of x) refl e
  where
    at : (a v : TreeOf Mark) → part_at t x.path ≡ Some a → IsTurned a v → replaced t x.path v ≡ u → IsReached (pattern_marked t) (pattern_marked u)
    at a v p h q =
        let first : IsStep t (replaced t x.path (bare a)) = subst (λ (z : TreeOf Mark). IsStep z (replaced t x.path (bare a))) (replaced-part_at t x.path a p) (replaced-steps x.path t a (bare a) (to-bare a)) in
        let second : IsStep (replaced t x.path (bare a)) (replaced t x.path h.node) =
        subst (λ (z : TreeOf Mark). IsStep (replaced t x.path z) (replaced t x.path h.node)) (sym h.same) (replaced-steps x.path t (bare h.node) h.node (from-bare h.node)) in
        let third : IsStep (replaced t x.path h.node) u = subst (IsStep (replaced t x.path h.node)) q (replaced-steps x.path t h.node v h.step) in
        reached-then (one-step first) (reached-then (one-step second) (one-step third))

    turn : (l : PatternOf Text × PatternOf Text) → sides_of x ≡ Some l → (a : TreeOf Mark) → part_at t x.path ≡ Some a → (o : Option (TreeOf Mark)) → turned l a ≡ o → option_map (λ v. replaced t x.path v) o ≡ Some u →
        IsReached (pattern_marked t) (pattern_marked u)
    turn l s a p (Some v) q g = let same : replaced t x.path v ≡ u = cc in at a v p (turned-step l (sides-turn x l s) a v q) same
    turn l s a p None q g = let bad : ⊥ = cc in absurd bad

    part : (l : PatternOf Text × PatternOf Text) → sides_of x ≡ Some l → (o : Option (TreeOf Mark)) → part_at t x.path ≡ o → option_and_then (λ a. option_map (λ v. replaced t x.path v) (turned l a)) o ≡ Some u →
        IsReached (pattern_marked t) (pattern_marked u)
    part l s (Some a) p g = turn l s a p (turned l a) refl g
    part l s None p g = let bad : ⊥ = cc in absurd bad

    by : (o : Option (PatternOf Text × PatternOf Text)) → sides_of x ≡ o → option_and_then (λ sides. option_and_then (λ a. option_map (λ v. replaced t x.path v) (turned sides a)) (part_at t x.path)) o ≡ Some u →
        IsReached (pattern_marked t) (pattern_marked u)
    by (Some l) s g = part l s (part_at t x.path) refl g
    by None s g = let bad : ⊥ = cc in absurd bad

-- the steps that are left, where they are stuck nowhere
left-steps : (n : ℕ) (xs : List CertStep) (last t : TreeOf Mark) → stuck_from n xs last t ≡ None → IsReached (pattern_marked t) (pattern_marked last)
left-steps n [] last t e = by (same_tree is_same_mark last t) refl e
  where
    by : (c : Bool) → same_tree is_same_mark last t ≡ c → (if c then None else Some n) ≡ None → IsReached (pattern_marked t) (pattern_marked last)
    by true f g = same-reached t last (sym (tree_told is_same_mark mark_words_are.told last t f))
    by false f g = let bad : ⊥ = cc in absurd bad
left-steps n (x ∷ xs) last t e = by (take_step x t) refl e (left-steps (suc n) xs last)
  where
    by : (o : Option (TreeOf Mark)) → take_step x t ≡ o → option_map_or (stuck_from (suc n) xs last) o (Some n) ≡ None →
        ((u : TreeOf Mark) → stuck_from (suc n) xs last u ≡ None → IsReached (pattern_marked u) (pattern_marked last)) → IsReached (pattern_marked t) (pattern_marked last)
    by (Some u) f g on = reached-then (taken-step x t u f) (on u g)
    by None f g on = let bad : ⊥ = cc in absurd bad

pub derived-steps : (xs : List CertStep) (p q : PatternOf Name) → derives xs p q ≡ true → IsReached (plainly p) (plainly q)
derived-steps [] p q e = absurd (false≢true e)
derived-steps (x ∷ xs) p q e = by (stuck_from 1 (x ∷ xs) (marked_tree q) (marked_tree p)) refl e
  where
    by : (o : Option ℕ) → stuck_from 1 (x ∷ xs) (marked_tree q) (marked_tree p) ≡ o → is_none o ≡ true → IsReached (plainly p) (plainly q)
    by None f g = left-steps 1 (x ∷ xs) (marked_tree q) (marked_tree p) f
    by (Some n) f g = absurd (false≢true g)
