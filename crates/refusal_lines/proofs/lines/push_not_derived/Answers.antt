use Rattle.std.proofs.Common.{◌≡◌, ◌++◌, ℕ, List, codes, map, sym, ap, subst, ◌∙◌}
use Rattle.std.specs.Prelude.{OnOk}
use Rattle.std.proofs.lemmas.List.{append-nil}
use Rattle.certificate_model.specs.CertificateTexts.{certificate_text}
use Rattle.certificates.specs.Shown.{step_shown}
use Rattle.refusal_lines.proofs.lines.push_not_derived.Goals as goal

pub returns-clause-told : goal.returns-clause-told
returns-clause-told c =
    let out = c.args.out.now in
    let head = codes " C45 Derived " in
    let text = certificate_text (map step_shown c.args.certificate.now.steps.items) in
    let words : c.push_certificate.new.out ≡ head ++ text = c.in_ok-push_certificate.ensures ∙ ap (λ (t : List ℕ). t ++ text) (c.in_ok-push_slice.ensures.ok ∙ ap (λ (t : List ℕ). t ++ head) c.new-words.ensures) in
    subst (λ (t : List ℕ). OnOk c.push_slice-2.result (c.push_slice-2.new.self ≡ t))
    (ap (λ (t : List ℕ). out ++ t) (c.as_slice.ensures ∙ words ∙ ap (λ (t : List ℕ). head ++ t) (sym (append-nil text))))
    c.push_slice-2.ensures.ok
