-- Texts to which pieces are appended, as far as there is memory for them.
use Rattle.std.proofs.Common.{◌≡◌, ◌∙◌, ap, sym, ℕ, List, [], ◌++◌, append_assoc, append-nil, Result, Ok, Err}
use Rattle.std.specs.Prelude.{OnOk, OnErr}
use Rattle.refusal_lines.specs.Begun.{BeginsWith}

-- nothing more
pub begins_same : {first later : List ℕ} → later ≡ first → BeginsWith later first
begins_same {first} e = record { more = []; is = e ∙ sym (append-nil first) }

-- one more piece
pub begins_more : {first later : List ℕ} (piece : List ℕ) → later ≡ first ++ piece → BeginsWith later first
begins_more piece e = record { more = piece; is = e }

-- one more piece, or nothing
pub begins_either : {T E : Type 0} (r : Result T E) {first later : List ℕ} (piece : List ℕ) → OnOk r (later ≡ first ++ piece) → OnErr r (later ≡ first) → BeginsWith later first
begins_either (Ok u) piece ok err = begins_more piece ok
begins_either (Err e) piece ok err = begins_same err

-- one text after the other
pub begins_twice : {first later last : List ℕ} → BeginsWith later first → BeginsWith last later → BeginsWith last first
begins_twice {first} p q = record { more = p.more ++ q.more; is = q.is ∙ ap (λ t. t ++ q.more) p.is ∙ append_assoc first p.more q.more }
