-- Where a certificate derives a rule, the replacement is filled to what may stand where its pattern does.
use Rattle.std.proofs.Common.{◌≡◌, List, [], ◌∷◌, Option, Some, None, refl, sym, ap, ◌∙◌, subst}
use Rattle.std.specs.Prelude.{ℕ, suc, Bool, true, false, not, if◌then◌else◌, is_none, option_map, option_and_then}
use Rattle.std.specs.List.{list_all, list_any}
use Rattle.std.specs.Option.{option_map_or}
use Rattle.std.proofs.lemmas.Bool.{false≢true}
use Rattle.tree_model.specs.Tree.{TreeOf}
use Rattle.tree_model.specs.Bare.{bare, SameBare}
use Rattle.tree_model.specs.Path.{part_at, replaced}
use Rattle.tree_model.proofs.Parts.{replaced-part_at}
use Rattle.same_trees.specs.SameTrees.{same_tree}
use Rattle.same_trees.proofs.Told.{tree_told}
use Rattle.reread_law.specs.WellFormed.{NoReturn}
use Rattle.pattern_model.specs.Patterns.{MetaOf, PatternOf, metas}
use Rattle.pattern_model.specs.Bindings.{BoundOf, BindingOf, same_meta, bound_of, each_once}
use Rattle.pattern_model.specs.Matches.{is_of_kind, Matches}
use Rattle.pattern_model.specs.MatchTree.{match_tree}
use Rattle.pattern_model.specs.Fill.{part_in, fill}
use Rattle.pattern_model.specs.Named.{map_pattern}
use Rattle.pattern_laws.proofs.SameMetas.{all_weaker, once_there}
use Rattle.pattern_laws.proofs.Gathered.{bound_right}
use Rattle.pattern_laws.proofs.Matching.{match_sound}
use Rattle.certified_model.specs.Marks.{Text, Mark, plain, is_same_mark, marked_tree, mark_words}
use Rattle.certified_model.specs.Certificates.{CertStep, is_statement_meta, is_fit, plain_joined, turned, sides_of, take_step, stuck_from, derives}
use Rattle.certified_rules.proofs.MarkWords.{mark_words_are}
use Rattle.certified_rules.proofs.LawTurns.{IsKnown, Turns}
use Rattle.certified_rules.proofs.TableTurns.{sides-turn}
use Rattle.certified_rules.proofs.DerivedSteps.{bound-fit}
use Rattle.rule_kept.proofs.StepsKept.{Steps, steps_then, replaced_steps, same_steps}
use Rattle.rule_kept.proofs.LawsKept.{KeepsLaw, sides_kept}

module _ (bound : MetaOf Text → BoundOf Text) (joined : List (List ℕ) → Text) (operands : (m : MetaOf Text) → not (is_statement_meta m.kind) ≡ true → NoReturn (bare (part_in m.name (bound m)))) where
  -- the node is another one but for comments, and the turned node may stand where that does
  record IsTurned (a v : TreeOf Mark) : Type 0 where
    node : TreeOf Mark
    same : SameBare a node
    step : Steps bound joined node v

  turned_kept : (l : PatternOf Text × PatternOf Text) → Turns l → KeepsLaw bound joined operands l → (a v : TreeOf Mark) → turned l a ≡ Some v → IsTurned a v
  turned_kept l h kept a v e = by (match_tree mark_words (map_pattern plain l.0) a) refl e
    where
      left : PatternOf Mark
      left = map_pattern plain l.0

      known : (bs : List (BindingOf Mark)) → Matches mark_words plain_joined left a bs → list_all (λ (x : BindingOf Mark). is_fit x.bound) bs ≡ true → IsKnown (bound_of is_same_mark bs) (metas left)
      known bs m fit = record {
        fit = bound-fit bs fit;
        kinds = all_weaker (λ k. list_any (λ n. same_meta is_same_mark n k) (each_once is_same_mark (metas left)) ≡ true) (λ k. is_of_kind mark_words k.kind (bound_of is_same_mark bs k) ≡ true) (metas left)
            (λ k f. bound_right mark_words plain_joined mark_words_are bs m.in_kind k (ap (list_any (λ n. same_meta is_same_mark n k)) m.binds ∙ f))
            (once_there is_same_mark mark_words_are.refl mark_words_are.told (metas left));
      }

      fitting : (bs : List (BindingOf Mark)) → match_tree mark_words left a ≡ Some bs → (c : Bool) → list_all (λ (x : BindingOf Mark). is_fit x.bound) bs ≡ c →
          (if c then Some (fill is_same_mark plain_joined bs (map_pattern plain l.1)) else None) ≡ Some v → IsTurned a v
      fitting bs q true f g =
          let m = match_sound mark_words plain_joined mark_words_are left a h.lawful bs q in
          let same : fill is_same_mark plain_joined bs (map_pattern plain l.1) ≡ v = cc in
          record { node = fill is_same_mark plain_joined bs left; same = sym m.fills; step = subst (Steps bound joined (fill is_same_mark plain_joined bs left)) same (kept (bound_of is_same_mark bs) (known bs m f)) }
      fitting bs q false f g = let bad : ⊥ = cc in absurd bad

      by : (o : Option (List (BindingOf Mark))) → match_tree mark_words left a ≡ o →
          option_and_then (λ bs. if list_all (λ (x : BindingOf Mark). is_fit x.bound) bs then Some (fill is_same_mark plain_joined bs (map_pattern plain l.1)) else None) o ≡ Some v → IsTurned a v
      by (Some bs) q g = fitting bs q (list_all (λ (x : BindingOf Mark). is_fit x.bound) bs) refl g
      by None q g = let bad : ⊥ = cc in absurd bad

  -- one step of a certificate
  taken_kept : (x : CertStep) (t u : TreeOf Mark) → take_step x t ≡ Some u → Steps bound joined t u
  taken_kept x t u e = by (sides_of x) refl e
    where
      at : (a v : TreeOf Mark) → part_at t x.path ≡ Some a → IsTurned a v → replaced t x.path v ≡ u → Steps bound joined t u
      at a v p h q =
          let first : Steps bound joined t (replaced t x.path h.node) =
          subst (λ (z : TreeOf Mark). Steps bound joined z (replaced t x.path h.node)) (replaced-part_at t x.path a p) (replaced_steps bound joined x.path t a h.node (same_steps bound joined a h.node h.same)) in
          let second : Steps bound joined (replaced t x.path h.node) u = subst (Steps bound joined (replaced t x.path h.node)) q (replaced_steps bound joined x.path t h.node v h.step) in
          steps_then bound joined t (replaced t x.path h.node) u first second

      turn : (l : PatternOf Text × PatternOf Text) → sides_of x ≡ Some l → (a : TreeOf Mark) → part_at t x.path ≡ Some a → (o : Option (TreeOf Mark)) → turned l a ≡ o → option_map (λ v. replaced t x.path v) o ≡ Some u → Steps bound joined t u
      turn l s a p (Some v) q g = let same : replaced t x.path v ≡ u = cc in at a v p (turned_kept l (sides-turn x l s) (sides_kept bound joined operands x l s) a v q) same
      turn l s a p None q g = let bad : ⊥ = cc in absurd bad

      part : (l : PatternOf Text × PatternOf Text) → sides_of x ≡ Some l → (o : Option (TreeOf Mark)) → part_at t x.path ≡ o → option_and_then (λ a. option_map (λ v. replaced t x.path v) (turned l a)) o ≡ Some u → Steps bound joined t u
      part l s (Some a) p g = turn l s a p (turned l a) refl g
      part l s None p g = let bad : ⊥ = cc in absurd bad

      by : (o : Option (PatternOf Text × PatternOf Text)) → sides_of x ≡ o → option_and_then (λ sides. option_and_then (λ a. option_map (λ v. replaced t x.path v) (turned sides a)) (part_at t x.path)) o ≡ Some u → Steps bound joined t u
      by (Some l) s g = part l s (part_at t x.path) refl g
      by None s g = let bad : ⊥ = cc in absurd bad

  -- the steps that are left, where they are stuck nowhere
  left_kept : (n : ℕ) (xs : List CertStep) (last t : TreeOf Mark) → stuck_from n xs last t ≡ None → Steps bound joined t last
  left_kept n [] last t e = by (same_tree is_same_mark last t) refl e
    where
      by : (c : Bool) → same_tree is_same_mark last t ≡ c → (if c then None else Some n) ≡ None → Steps bound joined t last
      by true f g = same_steps bound joined t last (sym (tree_told is_same_mark mark_words_are.told last t f))
      by false f g = let bad : ⊥ = cc in absurd bad
  left_kept n (x ∷ xs) last t e = by (take_step x t) refl e (left_kept (suc n) xs last)
    where
      by : (o : Option (TreeOf Mark)) → take_step x t ≡ o → option_map_or (stuck_from (suc n) xs last) o (Some n) ≡ None →
          ((u : TreeOf Mark) → stuck_from (suc n) xs last u ≡ None → Steps bound joined u last) → Steps bound joined t last
      by (Some u) f g on = steps_then bound joined t u last (taken_kept x t u f) (on u g)
      by None f g on = let bad : ⊥ = cc in absurd bad

  pub derived_kept : (xs : List CertStep) (p q : PatternOf Text) → derives xs p q ≡ true → Steps bound joined (marked_tree p) (marked_tree q)
  derived_kept [] p q e = absurd (false≢true e)
  derived_kept (x ∷ xs) p q e = by (stuck_from 1 (x ∷ xs) (marked_tree q) (marked_tree p)) refl e
    where
      by : (o : Option ℕ) → stuck_from 1 (x ∷ xs) (marked_tree q) (marked_tree p) ≡ o → is_none o ≡ true → Steps bound joined (marked_tree p) (marked_tree q)
      by None f g = left_kept 1 (x ∷ xs) (marked_tree q) (marked_tree p) f
      by (Some n) f g = absurd (false≢true g)
