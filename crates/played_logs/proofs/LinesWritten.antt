-- The lines of replies that are told.
use Rattle.std.proofs.Common.{◌≡◌, ℕ, suc, ◌+◌, List, [], ◌∷◌, ◌++◌, length, map, refl, sym, ap, ◌∙◌, append_assoc, arith}
use Rattle.std.proofs.lemmas.List.{append-nil}
use Rattle.rule_model.specs.RuleCommands.{Reason}
use Rattle.team_core.specs.declared.reply.Reply.{Reply}
use Rattle.team_core.specs.declared.reply.Reply.TheVariants.{Accepted, AlreadyOpen, NotOpen, Full, Stale, Refused}
use Rattle.script_model.specs.Makers.{Text}
use Rattle.play_model.specs.Replies.{reply_line, reply_lines}
use Rattle.played_logs.specs.Told.{told, told_line, told_lines}

line-told : (n : ℕ) (r : Reply Reason) → told_line n (told r) ≡ reply_line n r
line-told n (Accepted revision) = refl
line-told n AlreadyOpen = refl
line-told n NotOpen = refl
line-told n Full = refl
line-told n (Stale revision event) = refl
line-told n (Refused nth reason) = refl

-- they are those of the replies
pub lines-told : (n : ℕ) (rs : List (Reply Reason)) → told_lines n (map told rs) ≡ reply_lines n rs
lines-told n [] = refl
lines-told n (r ∷ rs) = λ i. line-told n r i ++ lines-told (suc n) rs i

-- one more line
pub lines-more : (n : ℕ) (rs : List (Reply Text)) (r : Reply Text) → told_lines n (rs ++ r ∷ []) ≡ told_lines n rs ++ told_line (n + length rs) r
lines-more n [] r = append-nil (told_line n r) ∙ ap (λ (k : ℕ). told_line k r) (omega arith)
lines-more n (q ∷ rs) r =
    ap (λ (t : Text). told_line n q ++ t) (lines-more (suc n) rs r ∙ ap (λ (k : ℕ). told_lines (suc n) rs ++ told_line k r) (omega arith))
    ∙ sym (append_assoc (told_line n q) (told_lines (suc n) rs) (told_line (n + length (q ∷ rs)) r))
