use Rattle.std.proofs.Common.{◌≡◌, ◌≤◌, ◌+◌, ◌++◌, ℕ, List, length, ◌∙◌, ap, sym, arith, length-append}
use Rattle.std.proofs.lemmas.Slice.{take-put_mid}
use Rattle.std.proofs.lemmas.List.{take_at}
use Rattle.rb_base.proofs.short.Short.joined.Goals as goal

-- a list is no longer than with more behind it
within : (xs ys : List ℕ) (n : ℕ) → length xs ≡ n → n ≤ length (xs ++ ys)
within xs ys n e = rw (length-append xs ys) (omega (arith, e))

pub returns : goal.returns
returns c =
    let first = c.args.first.now in
    let second = c.args.second.now in
    let written = c.copy_from_slice.ensures.after in
    let behind = c.copy_from_slice-2.ensures.after in
    take-put_mid (length first) _ _ _ _ (ap (λ s. length first + length s) (sym behind)) (within c.copy_from_slice.new.self _ _ (ap length written))
    ∙ ap (λ s. s ++ c.copy_from_slice-2.new.self) (take_at c.copy_from_slice.new.self _ _ (ap length written) ∙ written)
    ∙ ap (λ s. first ++ s) behind
