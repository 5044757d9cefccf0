use Rattle.std.proofs.Common.{◌≡◌, sym, ◌∙◌, arith, rules}
use Rattle.std.specs.Prelude.{◌≢◌, slice_range}
use Rattle.std.proofs.lemmas.Grind.{common_steps}
use Rattle.token_model.specs.declared.kind.TokenKind.TheVariants.{End}
use Rattle.grammar_model.specs.Whole.{PatternText}
use Rattle.grammar_model.specs.PatternTokens.{pattern_terminal_of}
use Rattle.st_lexer.specs.Pieces.{piece}
use Rattle.st_faults.specs.Lexing.{literal_of}
use Rattle.st_faults.proofs.Listed.{next_further}
use Rattle.pattern_faults.proofs.MetaPlaces.{one_read, last_read, fault_read}
use Rattle.pattern_faults.proofs.places.meta_places.Goals as goal
use Rattle.pattern_faults.proofs.places.meta_places.Goals.{in-End, in_default-matches}

pub returns-in_default-clause-fault : goal.returns-in_default-clause-fault
returns-in_default-clause-fault c = λ tokens. fault_read c.args.text.now c.tokens.place c.tokens.ends c.tokens.places.items c.in_default.field-0 c.tokens.invariant.read c.in_default.ensures.fault tokens

pub returns-then-matches-clause-places : goal.returns-then-matches-clause-places
returns-then-matches-clause-places c =
    let kind : c.in-Ok.token.kind ≡ End =
    elim c.match-matches.branch [
      | in-End w ↦ first_of (search rules, cc)
      | in_default-matches w ↦ first_of (search rules, cc, grind (arith, common_steps))
    ] in
    last_read c.args.text.now c.tokens.place c.tokens.ends c.tokens.places.items (piece c.in-Ok.token) c.tokens.invariant.read c.in-Ok.ensures.token kind

pub tokens-smaller : goal.tokens-smaller
tokens-smaller c =
    let kind : c.in-Ok.token.kind ≢ End =
    elim c.match-matches.branch [
      | in-End w ↦ first_of (search rules, cc, grind (arith, common_steps))
      | in_default-matches w ↦ first_of (search rules, cc, grind (arith, common_steps))
    ] in
    omega (arith, c.in-Ok.ensures.inside, next_further PatternText c.args.text.now c.tokens.place (piece c.in-Ok.token) c.in-Ok.ensures.token kind)

pub tokens-preserved : goal.tokens-preserved
tokens-preserved c =
    let kind : c.in-Ok.token.kind ≢ End =
    elim c.match-matches.branch [
      | in-End w ↦ first_of (search rules, cc, grind (arith, common_steps))
      | in_default-matches w ↦ first_of (search rules, cc, grind (arith, common_steps))
    ] in
    let text : c.in-Ok.token.text.now ≡ slice_range c.args.text.now c.in-Ok.token.from c.in-Ok.token.to = c.in-Ok.ensures.text in
    record {
      inside = c.in-Ok.ensures.inside;
      read =
          one_read c.args.text.now c.tokens.place c.tokens.ends c.in_ok-ends.ends c.tokens.places.items c.pass.new.places.items (piece c.in-Ok.token) _ c.tokens.invariant.read c.in-Ok.ensures.token kind
          ((λ i. pattern_terminal_of c.in-Ok.token.kind (sym text i) (sym c.begins_digit-before_numeral.ensures i)) ∙ c.sort_in-sort.ensures)
          (c.in_ok-ends.ensures c.in-Ok.token.text.now (literal_of c.in-Ok.token.kind c.in-Ok.token.text.now));
    }
