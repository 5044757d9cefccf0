-- The beginning of a text, and the whole of a do-it.
use Rattle.std.proofs.Common.{◌≡◌, ◌≤◌, [], ◌++◌, None, arith, refl, ap, sym, subst, ◌∙◌}
use Rattle.std.proofs.lemmas.List.{append-nil}
use Rattle.token_model.specs.TokenLists.{HasTokens}
use Rattle.token_model.specs.declared.kind.Dialect.TheVariants.{Second}
use Rattle.token_model.proofs.Begins.{lists}
use Rattle.tree_model.specs.Tree.{Notes, SequenceOf}
use Rattle.tree_model.specs.Measure.{sequence_height}
use Rattle.text_model.specs.Whole.{canonical_doit}
use Rattle.grammar_model.specs.Terminal.{Text}
use Rattle.grammar_model.specs.Input.{Input, beginning}
use Rattle.grammar_model.specs.Ahead.{Any}
use Rattle.grammar_model.specs.Lexemes.{lexemes_of, IsLexed}
use Rattle.grammar_model.specs.Spanned.{SpannedSequence, plain_sequence}
use Rattle.grammar_model.specs.Whole.{IsOver, IsDoIt}
use Rattle.grammar_model.specs.Spelling.{SpellsDoIt}
use Rattle.grammar_model.proofs.Limits.{limit_DoIt}
use Rattle.grammar_model.proofs.Rows.{longest_IsDoIt}
use Rattle.reread_law.specs.WellFormed.{AllNotes}
use Rattle.reread_law.specs.WholeTrees.{WellFormedDoIt}
use Rattle.reread_law.proofs.Sound.{GoodLexemes, Sound, notes_append, sound_lexed}
use Rattle.reread_law.proofs.Made.{made_Sequence}
use Rattle.reread_law.proofs.PlainFaults.{sound_DoIt, no_fault_DoIt}
use Rattle.reread_law.proofs.Steps.{World, Here, finish, text_as}
use Rattle.reread_law.proofs.Sequences.{left_after, first_none, left_none, reads_sequence}
use Rattle.reread_law.proofs.Trees.{can_read_statements}

-- the comments before the end of a text
pub over_notes : {i : Input} {tail : Notes} → IsOver i tail → Sound i → AllNotes tail
over_notes {i} {tail} o s =
    let rest = subst GoodLexemes o.over s.rest in
    subst AllNotes (sym o.tail_is) (notes_append i.held o.notes s.held rest.0)

-- a text with all its tokens, and nothing read of it yet
pub record Begun (t : Text) : Type 0 where
  pub world : World
  pub text_is : world.text ≡ t
  pub here : Here world 0 (beginning world.tokens) [] t
  pub lexed : world.fault ≡ None → IsLexed Second t world.tokens

-- each text has such a beginning
pub begun : (t : Text) → Begun t
begun t =
    let l = lists Second t 0 (omega arith) in
    let w : World = record { text = t; fault = l.1; tokens = lexemes_of t [] l.0 } in
    record {
      world = w;
      text_is = refl;
      here = record { at = 0; place = record { front = []; split = refl; place = refl }; pieces = l.0; pending = []; read = l.2; same = refl; total = refl; depth = refl };
      lexed = λ clean. record { pieces = l.0; read = subst (HasTokens Second t 0 l.0) clean l.2; same = refl };
    }

-- what a text spells is well formed
pub well_formed_doit : (t : Text) (s : SequenceOf Text) → SpellsDoIt Second t s → WellFormedDoIt s
well_formed_doit t s h =
    let u = h.spanned in
    let g = made_Sequence h.spells.grammar.sequence (sound_lexed Second t h.spells.tokens h.spells.lexed) in
    let f = sound_DoIt u h.spells.sound in
    let low : sequence_height (plain_sequence u) ≤ 200 = subst (λ (s : SequenceOf Text). sequence_height s ≤ 200) h.same (limit_DoIt Second t s h) in
    let good : WellFormedDoIt (plain_sequence u) = record { words = g.0; statements = g.1; notes = over_notes h.spells.grammar.over g.2; height = low; once = f.once; once_inside = f.once_inside; assigned = f.assigned } in
    subst WellFormedDoIt (sym h.same) good

-- the canonical text of a well-formed do-it spells it
pub doit_again : (s : SequenceOf Text) → WellFormedDoIt s → SpellsDoIt Second (canonical_doit s) s
doit_again s g =
    let b = begun (canonical_doit s) in
    let low : sequence_height s ≤ 200 = g.height in
    let a = text_as (canonical_doit s) (canonical_doit s ++ []) (sym (append-nil (canonical_doit s))) b.here in
    let r = reads_sequence s.temporaries s.statements s.tail g.words (can_read_statements s.statements g.statements) g.notes b.world 0 0 (beginning b.world.tokens) [] [] refl (omega arith) a in
    let f = finish r.here in
    let u : SpannedSequence = record { temporaries = r.names; statements = r.statements; tail = left_after [] s.statements ++ s.tail } in
    let same : plain_sequence u ≡ s = (λ i. record { temporaries = r.plain_names i; statements = (r.plain ∙ first_none s.statements) i; tail = ap (λ x. x ++ s.tail) (left_none s.statements) i }) in
    let grammar : IsDoIt Any b.world.tokens u = record { stop = r.stop; sequence = r.read; over = f.over } in
    record {
      spanned = u;
      spells = record {
        tokens = b.world.tokens;
        lexed = b.lexed f.clean;
        shallow = f.shallow;
        grammar = longest_IsDoIt b.world.tokens u grammar;
        sound = no_fault_DoIt u (subst WellFormedDoIt (sym same) g);
      };
      same = sym same;
    }
