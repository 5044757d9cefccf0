-- The first byte that continues no certificate is one.
use Rattle.std.proofs.Common.{◌≡◌, ◌⊎◌, inl, inr, ℕ, zero, suc, ◌<◌, ◌≤◌, [], ◌∷◌, ◌++◌, take, refl, ap, subst, arith}
use Rattle.std.proofs.lemmas.Bool.{cases_lt}
use Rattle.std.proofs.lemmas.List.{append_assoc}
use Rattle.certified_model.specs.Marks.{Text}
use Rattle.certificate_model.specs.CertificateTexts.{SaysCertificate, BeginsCertificate, HasBadStep}

-- fewer bytes of a text are a beginning of more of them
fewer : (a b : ℕ) (t : Text) → a ≤ b → (r : Text) × (take b t ≡ take a t ++ r)
fewer zero b t h = (take b t, refl)
fewer (suc a) zero t h = absurd (omega (arith, h))
fewer (suc a) (suc b) [] h = ([], refl)
fewer (suc a) (suc b) (c ∷ t) h = let rest = fewer a b t (omega (arith, h)) in (rest.0, ap (λ (s : Text). c ∷ s) rest.1)

-- a beginning of a beginning is one
earlier : (s r : Text) → BeginsCertificate (s ++ r) → BeginsCertificate s
earlier s r b = record { rest = r ++ b.rest; steps = b.steps; says = subst (λ (t : Text). SaysCertificate t b.steps) (append_assoc s r b.rest) b.says }

not_before : (text : Text) (a b : ℕ) → HasBadStep text a → HasBadStep text b → a < b → ⊥
not_before text a b h k l =
    let there = k.within in
    let more = fewer (suc a) b text (omega (arith, l)) in
    h.no_further (omega (arith, l, there)) (earlier (take (suc a) text) more.0 (subst BeginsCertificate more.1 k.before))

pub one_place : (text : Text) (a b : ℕ) → HasBadStep text a → HasBadStep text b → a ≡ b
one_place text a b h k = by (cases_lt a b) (cases_lt b a)
  where
    by : (a < b) ⊎ (b ≤ a) → (b < a) ⊎ (a ≤ b) → a ≡ b
    by (inl l) o = absurd (not_before text a b h k l)
    by (inr l) (inl m) = absurd (not_before text b a k h m)
    by (inr l) (inr m) = omega (arith, l, m)
