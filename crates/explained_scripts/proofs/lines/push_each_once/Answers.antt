use Rattle.std.proofs.Common.{◌≡◌, ◌++◌, List, ℕ, Some, ◌≤◌, length, take, [], ◌∷◌, sym, ap, ◌∙◌, arith}
use Rattle.std.proofs.lemmas.List.{append_assoc, append-nil, take_all, take_more}
use Rattle.rb_base.specs.Names.{text_eq, number_in, interned}
use Rattle.scope_model.specs.FreeNames.{each_once}
use Rattle.explained_scripts.proofs.EachOnce.{joined, once-more, told-new, told-known}
use Rattle.explained_scripts.proofs.lines.push_each_once.Goals as goal
use Rattle.explained_scripts.proofs.lines.push_each_once.Goals.{then-number-count+in_ok-push_slice, else-number-count}

pub loop-line-init : goal.loop-line-init
loop-line-init c = record { seen = c.new-seen.ensures; out = sym (append-nil c.args.out.now) ∙ ap (λ ns. c.args.out.now ++ joined ns) (sym c.new-seen.ensures) }

pub loop-line-preserved : goal.loop-line-preserved
loop-line-preserved c =
    let k = c.loop-line.line-index in
    let all = c.args.lines.now in
    let line : List ℕ = c.line-item.result in
    let seen = c.loop-line.seen in
    let now : c.intern.new.self ≡ interned seen line = c.in_ok-number.ensures.ok ∙ ap (interned seen) c.as_slice.ensures in
    let n = c.in_ok-number.number in
    let number : Some n ≡ number_in (interned seen line) line = c.in_ok-number.ensures.number ∙ (λ i. number_in (now i) (c.as_slice.ensures i)) in
    record {
      seen =
          now ∙ ap (λ ns. interned ns line) c.loop-line.invariant.seen ∙ sym (once-more (take k all) line)
          ∙ ap (each_once text_eq) (ap (λ (x : List ℕ). take k all ++ x ∷ []) c.line-item.is ∙ sym (take_more all k line c.loop-line-test.true));
      out =
          elim c.if-number-count.branch [
            | then-number-count+in_ok-push_slice w ↦
                w.out-is ∙ w.in_ok-push_slice.ensures.ok ∙ ap (λ (x : List ℕ). c.loop-line.out ++ x) w.as_slice-then-number-count.ensures
                ∙ ap (λ (x : List ℕ). x ++ line) c.loop-line.invariant.out ∙ append_assoc c.args.out.now (joined seen) line
                ∙ ap (λ (x : List ℕ). c.args.out.now ++ x) (sym (told-new seen line n number (sym c.number.view_is ∙ w.if-number-count.true ∙ c.len-count.ensures.len)))
                ∙ ap (λ ns. c.args.out.now ++ joined ns) (sym now)
            | else-number-count w ↦
                w.out-is ∙ c.loop-line.invariant.out
                ∙ ap (λ ns. c.args.out.now ++ joined ns) (sym (told-known seen line n number (λ is. w.if-number-count.false (c.number.view_is ∙ is ∙ sym c.len-count.ensures.len))) ∙ sym now)
          ];
    }

pub returns : goal.returns
returns c =
    let over : length c.args.lines.now ≤ c.loop-line.line-index = omega (arith, c.loop-line-test.false) in
    c.loop-line.invariant.out ∙ ap (λ ns. c.args.out.now ++ joined ns) (c.loop-line.invariant.seen ∙ ap (each_once text_eq) (take_all c.loop-line.line-index c.args.lines.now over))
