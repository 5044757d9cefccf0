-- Where a part of the reader halts, the whole does.
use Rattle.std.proofs.Common.{◌≡◌, ◌∙◌}
use Rattle.certified_model.specs.Marks.{Text}
use Rattle.certificates.specs.Stops.{Next, left_from}
use Rattle.certificates.specs.Halts.{HaltsFrom}
use Rattle.certificates.specs.declared.reading.Halt.{Halt}
use Rattle.certificates.specs.declared.reading.Halt.TheVariants as halt

pub later : (p q : Next) (t r : Text) (h : Halt) → left_from p t ≡ left_from q r → HaltsFrom q r h → HaltsFrom p t h
later p q t r (halt.Bad left) e f = e ∙ f
later p q t r halt.Memory e f = tt
