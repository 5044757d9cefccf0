use Rattle.std.proofs.Common.{◌≡◌, ◌++◌, ◌-◌, ℕ, suc, Bool, List, ◌∷◌, length, map, Some, option_copied, append_assoc, ap, sym, ◌∙◌, arith}
use Rattle.std.specs.Prelude.{nat_eq, filter}
use Rattle.image_model.specs.Image.{ClassOf}
use Rattle.rename_model.specs.Conditions.{defines}
use Rattle.class_table.specs.View.{class_of, live_at}
use Rattle.name_meanings.proofs.Walks.{class-there, classes_from}
use Rattle.refusal_witnesses.specs.Witnesses.{WitnessOf, a_class_of, where_true}
use Rattle.witness_lists.specs.Views.{shown}
use Rattle.class_witnesses.proofs.Upwards.{chain-start, above-live, class-first, where-first}
use Rattle.class_witnesses.proofs.arrivals.definers_above.Goals as goal

pub loop-left-init : goal.loop-left-init
loop-left-init c =
    let s = c.args.image.now in
    let start = chain-start s c.requires c.args.class c.class_named-at.result c.class_named-at.ensures in
    record {
      live = start.0;
      same = ap (λ (es : List (ClassOf ℕ)). shown s c.args.found.now.items ++ map a_class_of (filter (defines nat_eq c.args.variable) es))
          (ap (λ (ks : List ℕ). classes_from s (length ks) c.class_named-at.result) c.classes-left.ensures.value ∙ start.1);
    }

pub returns-in_default-class_rec : goal.returns-in_default-class_rec
returns-in_default-class_rec c =
    let s = c.args.image.now in
    absurd (class-there s c.requires c.in-Some.id (c.loop-left.invariant.live c.in-Some.id c.in-Some.is) (sym c.class_rec.ensures ∙ ap option_copied c.in_default-class_rec.is))

pub loop-left-preserved : goal.loop-left-preserved
loop-left-preserved c =
    let s = c.args.image.now in
    let rec = c.in-Some-class_rec.rec.now in
    let told : live_at s.classes s.class_order c.in-Some.id ≡ Some rec = sym c.class_rec.ensures ∙ ap option_copied c.in-Some-class_rec.is in
    let old = shown s c.loop-left.found.items in
    let rest = classes_from s (c.loop-left.left - 1) rec.superclass in
    let behind = map a_class_of (filter (defines nat_eq c.args.variable) rest) in
    let left : suc (c.loop-left.left - 1) ≡ c.loop-left.left = omega (arith, c.loop-left-test.true) in
    let first : class_of s.classes rec ∷ rest ≡ classes_from s c.loop-left.left c.loop-left.at =
    sym (class-first s c.requires c.in-Some.id rec told (c.loop-left.left - 1)) ∙ (λ i. classes_from s (left i) (sym c.in-Some.is i)) in
    record {
      live = above-live s c.requires c.in-Some.id rec told;
      same =
          ap (λ (ws : List (WitnessOf ℕ)). ws ++ behind) (c.in_ok-push_if.ensures s)
          ∙ append_assoc old (where_true c.defines_any.result (a_class_of (class_of s.classes rec))) behind
          ∙ ap (λ (ws : List (WitnessOf ℕ)). old ++ ws)
          (ap (λ (b : Bool). where_true b (a_class_of (class_of s.classes rec)) ++ behind) c.defines_any.ensures
          ∙ where-first (defines nat_eq c.args.variable) (a_class_of {N = ℕ}) (class_of s.classes rec) rest
          ∙ ap (λ (es : List (ClassOf ℕ)). map a_class_of (filter (defines nat_eq c.args.variable) es)) first)
          ∙ c.loop-left.invariant.same;
    }
