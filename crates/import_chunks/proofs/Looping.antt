-- Chunks one after the other.
use Rattle.std.proofs.Common.{◌≡◌, ℕ, suc, ◌+◌, ◌-◌, [], ◌∷◌, ◌++◌, length, take, drop, Result, Ok, Err, refl, sym, ap, subst, ◌∙◌, arith, append_assoc}
use Rattle.chunk_format.specs.Left.{Left}
use Rattle.chunk_format.specs.Chunks.{Piece, Takes, IsOver}
use Rattle.chunk_format.proofs.Cuts.{behind}
use Rattle.file_model.specs.Causes.{Refusal}
use Rattle.file_model.specs.Filing.{Text}
use Rattle.file_faults.specs.declared.fault.ImageFault.{ImageFault}
use Rattle.import_model.specs.Steps.{Next, Imports}
use Rattle.import_model.specs.Imported.{Becomes, Over, Chunk, Refused, after, ended}
use Rattle.import_chunks.specs.Told.{Becoming, RefusesChunk, Tells, WantsMemory, Told}

-- a fact that follows
pub Tells-weaker : (P Q : Refusal → Type 0) → ((r : Refusal) → P r → Q r) → (a : ImageFault) → Tells P a → Tells Q a
Tells-weaker P Q h a WantsMemory = WantsMemory
Tells-weaker P Q h a (Told {refusal} e p) = Told e (h refusal p)

-- what is left behind a body and its mark
pub drop_body : (body rest : Text) → drop (length body + 1) (body ++ 33 ∷ rest) ≡ rest
drop_body [] rest = refl
drop_body (b ∷ body) rest =
    let more : length (b ∷ body) + 1 ≡ suc (length body + 1) = omega arith in
    ap (λ n. drop n (b ∷ body ++ 33 ∷ rest)) more ∙ drop_body body rest

pub rest_left : (left new : Left) (p : Piece) (rest : Text) → rest ≡ left.rest → Takes left p new → drop (length p.body + 1) rest ≡ new.rest
rest_left left new p rest e t = ap (drop (length p.body + 1)) (e ∙ t.cut.whole) ∙ drop_body p.body new.rest

-- there is so much
pub body_within : (left new : Left) (p : Piece) (rest : Text) → rest ≡ left.rest → Takes left p new → (k : ℕ) × (length rest ≡ length p.body + 1 + k)
body_within left new p rest e t = (length new.rest, ap length (e ∙ t.cut.whole) ∙ sizes p.body new.rest)
  where
    sizes : (body s : Text) → length (body ++ 33 ∷ s) ≡ length body + 1 + length s
    sizes [] s = omega arith
    sizes (b ∷ body) s = omega (arith, sizes body s)

-- the bytes behind it, as they are taken from the rest
pub rest_behind : (left new : Left) (p : Piece) (rest : Text) → rest ≡ left.rest → Takes left p new → take (length rest - (length p.body + 1)) (drop (length p.body + 1) rest) ≡ new.rest
rest_behind left new p rest e t =
    let within = body_within left new p rest e t in
    behind (length p.body + 1) rest (omega (arith, within.1)) ∙ rest_left left new p rest e t

-- a text after a text after another
after_after : (a b : Text) (r : Result Text Refusal) → after a (after b r) ≡ after (a ++ b) r
after_after a b (Ok t) = ap Ok (sym (append_assoc a b t))
after_after a b (Err r) = refl

-- a chunk becomes a text
pub went_on : (start : Left) (first now next : Next) (left new : Left) (p : Piece) (old out : Text) → ((r : Result Text Refusal) → Becomes now left r → Becomes first start (after old r)) → Takes left p new → Becoming (Imports p now) next old out
    → (r : Result Text Refusal) → Becomes next new r → Becomes first start (after out r)
went_on start first now next left new p old out inv t b r more =
    let whole : after old (after b.text r) ≡ after out r = after_after old b.text r ∙ ap (λ x. after x r) (sym b.appended) in
    subst (λ (x : Result Text Refusal). Becomes first start x) whole (inv (after b.text r) (Chunk t b.becomes more))

-- a chunk is refused
pub was_refused : (now : Next) (left new : Left) (p : Piece) (r : Refusal) → Takes left p new → RefusesChunk p now r → Becomes now left (Err r)
was_refused now left new p r t h = subst (λ (x : Refusal). Becomes now left (Err x)) (sym h.refusal) (Refused t h.imports)

-- an error that an ending is
pub ended_err : (start : Left) (first now : Next) (left : Left) (old rest : Text) (r : Refusal) → ((s : Result Text Refusal) → Becomes now left s → Becomes first start (after old s)) → IsOver left → rest ≡ left.rest → ended now rest ≡ Err r → Becomes first start (Err r)
ended_err start first now left old rest r inv over e is =
    let end : ended now left.rest ≡ Err r = ap (ended now) (sym e) ∙ is in
    inv (Err r) (subst (λ (x : Result Text Refusal). Becomes now left x) end (Over over))

-- a text that it is
pub ended_ok : (start : Left) (first now : Next) (left : Left) (old out rest : Text) → ((s : Result Text Refusal) → Becomes now left s → Becomes first start (after old s)) → IsOver left → rest ≡ left.rest → Ok out ≡ after old (ended now rest) → Becomes first start (Ok out)
ended_ok start first now left old out rest inv over e is =
    let end : after old (ended now left.rest) ≡ Ok out = ap (λ x. after old (ended now x)) (sym e) ∙ sym is in
    subst (λ (x : Result Text Refusal). Becomes first start x) end (inv (ended now left.rest) (Over over))
