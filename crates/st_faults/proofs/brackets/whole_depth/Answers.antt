use Rattle.std.proofs.Common.{arith}
use Rattle.st_faults.specs.Forms.{form_of}
use Rattle.st_faults.proofs.Scanning.{scanned_none, scanned_one, scanned_last}
use Rattle.st_faults.proofs.brackets.whole_depth.Goals as goal

pub tokens-init : goal.tokens-init
tokens-init c = record { inside = omega arith; scanned = scanned_none (form_of c.args.form) c.args.text.now }

pub returns-in-TextEnd-clause-depth : goal.returns-in-TextEnd-clause-depth
returns-in-TextEnd-clause-depth c =
    scanned_last (form_of c.args.form) c.args.text.now c.tokens.place c.in_ok-lexeme.lexeme c.tokens.depth c.depth_behind-depth.result
    c.tokens.invariant.scanned c.in_ok-lexeme.ensures.first c.in-TextEnd.is c.depth_behind-depth.ensures

pub tokens-preserved : goal.tokens-preserved
tokens-preserved c = record {
  inside = c.in_ok-lexeme.ensures.inside;
  scanned = scanned_one (form_of c.args.form) c.args.text.now c.tokens.place c.in_ok-lexeme.lexeme c.tokens.depth c.depth_behind-depth.result
      c.tokens.invariant.scanned c.in_ok-lexeme.ensures.first c.in_default.not-TextEnd c.depth_behind-depth.ensures;
}
