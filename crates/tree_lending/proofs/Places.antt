-- Where an argument stands among messages.
use Rattle.std.proofs.Common.{◌≡◌, ℕ, ◌+◌, ◌<◌, List, ◌∷◌, length, refl, arith, drop, get_or, add-one}
use Rattle.std.proofs.Math.Seq.{drop-cons}
use Rattle.st_tree.specs.Replaced.{IsPlace}
use Rattle.st_tree.specs.declared.tree.Message.{Message}

-- a place in the first of the messages from i on
pub place_here : (ms : List Message) (k i left : ℕ) (m : Message) → i < length ms → m ≡ get_or ms i m → left < length m.arguments
    → ((b j : ℕ) → IsPlace (drop i ms) left b j → IsPlace ms k (i + b) j) → IsPlace ms k i left
place_here ms k i left m h r l keeps =
    let now : drop i ms ≡ m ∷ drop (i + 1) ms = rw (add-one, drop-cons ms i m, ← r) in
    let here : IsPlace (m ∷ drop (i + 1) ms) left 0 left = (refl, l) in
    let same : i + 0 ≡ i = omega arith in
    rw same at (keeps 0 left (rw now here))
