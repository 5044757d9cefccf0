use Rattle.std.proofs.Common.{◌≡◌, ◌+◌, get_or, refl, sym, ◌∙◌}
use Rattle.token_model.specs.declared.kind.Dialect.TheVariants.{Second}
use Rattle.token_model.specs.declared.kind.TokenKind.TheVariants.{Symbol}
use Rattle.token_model.proofs.Leads.{lead, lead-byte, lead-symbol}
use Rattle.token_model.proofs.OneToken.{NoToken-lead}
use Rattle.st_lexer.proofs.marks.hash_token.Goals as goal

pub returns-in-None-clause-fault : goal.returns-in-None-clause-fault
returns-in-None-clause-fault c =
    let t = c.args.text.now in
    let i = c.args.from in
    let second = sym c.byte_at-second.ensures in
    let is : lead (get_or t i 0) (get_or t (i + 1) 0) ≡ Symbol =
    lead-byte 35 (get_or t i 0) (get_or t (i + 1) 0) c.requires.hash ∙ lead-symbol (get_or t (i + 1) 0) (λ e. c.if-second-eq40.false (sym second ∙ e)) (λ e. c.if-second-eq91.false (sym second ∙ e))
    in
    record {
      none = NoToken-lead Second Symbol t i is refl (λ e. cc) (λ j h. c.in-None.ensures.none j h.1);
      which = c.hash_fault.ensures t c.requires.hash second;
    }
