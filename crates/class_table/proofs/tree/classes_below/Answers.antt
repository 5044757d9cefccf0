use Rattle.std.proofs.Common.{◌≡◌, ◌<◌, ◌+◌, ◌||◌, Bool, true, false, List, [], ◌∷◌, ◌++◌, length, nat_eq, slice_get, unwrap_or, vec_len, sym, ap, ◌∙◌, arith}
use Rattle.std.specs.Prelude.{Vec}
use Rattle.std.specs.declared.alloc.Global.{Global}
use Rattle.std.specs.Option.{option_map_or}
use Rattle.std.proofs.Math.ListN.{set}
use Rattle.class_table.specs.Finding.{superclass_in, is_on_chain}
use Rattle.class_table.proofs.TreeOf.{SoFar-moved, tells, within, SoFar-found, SoFar-passed}
use Rattle.class_table.proofs.tree.classes_below.Goals as goal
use Rattle.class_table.proofs.tree.classes_below.Goals.{then-is_below+in_ok-push, else-is_below}

pub flag-requires : goal.flag-requires
flag-requires c =
    let here : c.id-item.result < length c.args.classes.now =
    within c.args.classes.now c.args.order.now c.args.class c.requires.first c.requires.order c.loop-id.id-index c.id-item.result c.loop-id.flags.items c.loop-id.found c.loop-id-test.true c.id-item.is c.loop-id.invariant in
    let many : length c.loop-id.flags.items ≡ length c.args.classes.now = c.loop-id.invariant.as_many in
    let len : length c.loop-id.flags.items ≡ vec_len c.loop-id.flags = ap length (sym c.deref.ensures.value) ∙ c.deref.ensures.len in
    omega arith

pub loop-id-preserved : goal.loop-id-preserved
loop-id-preserved c =
    let told : c.is_below.result ≡ is_on_chain c.args.classes.now c.args.order.now c.args.class c.id-item.result =
    c.is_below.ensures ∙ ap (λ (flags : List Bool). nat_eq c.args.class c.id-item.result || option_map_or (λ k. unwrap_or (slice_get flags k) false) (superclass_in c.args.classes.now c.id-item.result) false) c.deref.ensures.value
    ∙ tells c.args.classes.now c.args.order.now c.args.class c.requires.first c.requires.order c.loop-id.id-index c.id-item.result c.loop-id.flags.items c.loop-id.found c.loop-id-test.true c.id-item.is c.loop-id.invariant in
    elim c.if-is_below.branch [
      | then-is_below+in_ok-push w ↦
          let next = SoFar-found c.args.classes.now c.args.order.now c.args.class c.requires.first c.requires.order c.loop-id.id-index c.id-item.result c.loop-id.flags.items c.loop-id.found c.loop-id-test.true c.id-item.is c.loop-id.invariant (sym told ∙ w.if-is_below.true) in
          SoFar-moved c.args.classes.now c.args.order.now c.args.class (c.loop-id.id-index + 1) (set c.loop-id.flags.items c.id-item.result true) c.if-is_below.flags.items (c.loop-id.found ++ c.id-item.result ∷ []) c.if-is_below.found
          (ap (λ (v : Vec Bool Global). v.items) w.flags-is ∙ w.flag.ensures) (w.found-is ∙ w.in_ok-push.ensures.ok) next
      | else-is_below w ↦
          let next = SoFar-passed c.args.classes.now c.args.order.now c.args.class c.requires.first c.requires.order c.loop-id.id-index c.id-item.result c.loop-id.flags.items c.loop-id.found c.loop-id-test.true c.id-item.is c.loop-id.invariant (sym told ∙ w.if-is_below.false) in
          SoFar-moved c.args.classes.now c.args.order.now c.args.class (c.loop-id.id-index + 1) c.loop-id.flags.items c.if-is_below.flags.items c.loop-id.found c.if-is_below.found
          (ap (λ (v : Vec Bool Global). v.items) w.flags-is) w.found-is next
    ]
