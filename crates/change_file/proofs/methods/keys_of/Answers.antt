use Rattle.std.proofs.Common.{◌≡◌, List, ◌+◌, ◌++◌, ◌∷◌, ◌∙◌, drop, map, get_or, sym, ap}
use Rattle.file_model.specs.Filing.{Text}
use Rattle.change_file.specs.declared.methods.SignedMethod.{SignedMethod}
use Rattle.change_file.specs.Shown.{shown_method, key_shown, is_counterpart_shown}
use Rattle.change_file.proofs.KeyWalks.{keys_apart, key_taken, drop_item}
use Rattle.change_file.proofs.MethodLists.{shown_tells}
use Rattle.change_file.proofs.MethodTexts.{blank, item_there}
use Rattle.change_file.proofs.methods.keys_of.Goals as goal

pub loop-item-preserved : goal.loop-item-preserved
loop-item-preserved c =
    let items = c.args.items.now in
    let i = c.loop-item.item-index in
    let m = get_or items i blank in
    let t = c.as_slice.result.now in
    let rest = map key_shown (map shown_method (drop (i + 1) items)) in
    let key : t ≡ key_shown (shown_method m) = c.as_slice.ensures ∙ c.in_ok-key.ensures in
    let first : map key_shown (map shown_method (drop i items)) ≡ t ∷ rest =
    ap (λ (ms : List SignedMethod). map key_shown (map shown_method ms)) (drop_item items i m (item_there items i blank c.loop-item-test.true)) ∙ ap (λ (k : Text). k ∷ rest) (sym key) in
    ap (λ (ks : List Text). ks ++ rest) c.in_ok-_number.ensures.ok
    ∙ key_taken c.loop-item.keys rest (map key_shown (map shown_method items)) t
    (keys_apart key_shown is_counterpart_shown shown_tells (map shown_method items) c.requires)
    (ap (λ (ks : List Text). c.loop-item.keys ++ ks) (sym first) ∙ c.loop-item.invariant)
