use Rattle.std.proofs.Common.{◌<◌, List, ℕ, length, sym, subst}
use Rattle.change_file.proofs.Signed.{selector_known}
use Rattle.change_file.proofs.methods.signed_method.Goals as goal

pub text_of-requires : goal.text_of-requires
text_of-requires c =
    let info = c.in-Some-method_info.info in
    subst (λ (names : List (List ℕ)). info.selector < length names) (sym c.names.ensures)
    (selector_known c.args.image.now c.args.slot info c.requires.live c.in-Some-method_info.ensures c.requires.orderly)
