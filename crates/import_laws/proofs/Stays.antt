-- Each chunk of what was imported stays as it is.
use Rattle.std.proofs.Common.{◌≡◌, ℕ, ◌+◌, Bool, true, false, true≢false, [], ◌∷◌, ◌++◌, length, take, Option, Some, None, Result, Ok, Err, refl, sym, ap, subst, ◌∙◌, arith, append_assoc}
use Rattle.std.specs.Prelude.{if◌then◌else◌}
use Rattle.std.specs.Option.{option_map_or}
use Rattle.rb_base.specs.Doubling.{doubled, BeginsOtherwise}
use Rattle.token_model.specs.declared.kind.Dialect.TheVariants.{Second}
use Rattle.tree_model.specs.Tree.{SequenceOf}
use Rattle.chunk_format.specs.Blank.{is_blank, blank_len, drop_blanks, IsBlank}
use Rattle.chunk_format.specs.Left.{Left, start_of}
use Rattle.chunk_format.specs.Chunks.{Piece, Takes, IsOver, left_behind, written_piece}
use Rattle.chunk_format.specs.Source.{IsSource}
use Rattle.chunk_format.proofs.Unique.{Takes-written}
use Rattle.chunk_format.proofs.Blanks.{drop_blanks-append, drop_blanks-doubled, IsBlank-cons}
use Rattle.grammar_model.specs.Spelling.{SpellsDoIt}
use Rattle.text_model.specs.Literals.{is_identifier}
use Rattle.file_model.specs.Causes.{Cause, Refusal}
use Rattle.file_model.specs.Filing.{Text}
use Rattle.file_model.specs.Forms.{Form, Evaluates, Changes, Opens, OpensAt, Settles, Refuses, form_of, Replacement, replacement_in}
use Rattle.file_model.specs.Written.{chunk_text}
use Rattle.import_model.specs.Steps as step
use Rattle.import_model.specs.Steps.{Next, Outside, InRun, AtComment, Made, blanks_of, kept, comment_source, said, spelled, Imports}
use Rattle.import_model.specs.Imported as imported
use Rattle.import_model.specs.Imported.{after, ended, IsImported, without_mark}
use Rattle.import_model.proofs.Kept.{doubled_first, no_mark, body_begins, no_doit, unmarked}
use Rattle.import_laws.proofs.Starts.{Starts, starts_append, starts_doubled, starts_no_blank, starts_otherwise, starts_some}
use Rattle.import_laws.proofs.Sources.{next_of, doit_next, Spelling, Says, says_comment_source}
use Rattle.import_laws.proofs.Steps as steps
use Rattle.import_laws.proofs.Steps.{Plain, BlankOutside, RunEnds, InMethods, PlainDoIt, Step}

-- each chunk of what is left stays
pub data AllStay : Next → Left → Type 0 where
  Over : {now : Next} {left : Left} → IsOver left → ended now left.rest ≡ Ok left.rest → AllStay now left
  Kept : {now next : Next} {left new : Left} {p : Piece} → Takes left p new → Plain p.body now next → AllStay next new → AllStay now left

-- what a chunk that stays says, and what it becomes
said_next : (p : Piece) (b : SequenceOf Text) (form : Form) (next : Next) → next_of form ≡ Some next → said p b form ≡ kept p next
said_next p b Evaluates next e = let same : Outside ≡ next = cc in ap (kept p) same
said_next p b (Changes c) next e = let same : Outside ≡ next = cc in ap (kept p) same
said_next p b (Opens r) next e = let same : InRun ≡ next = cc in ap (kept p) same
said_next p b (OpensAt r k) next e = let same : InRun ≡ next = cc in ap (kept p) same
said_next p b Settles next e = let same : Outside ≡ next = cc in ap (kept p) same
said_next p b (Refuses cause) next e = absurd (cc)

spelled_next : (p : Piece) (b : SequenceOf Text) (o : Option Replacement) (next : Next) → doit_next o (form_of Second false b) ≡ Some next → option_map_or (λ (r : Replacement). kept p Outside) o (said p b (form_of Second false b)) ≡ kept p next
spelled_next p b None next e = said_next p b (form_of Second false b) next e
spelled_next p b (Some r) next e = let same : Outside ≡ next = cc in ap (kept p) same

pub plain_imports : (p : Piece) (now next : Next) → Plain p.body now next → Imports p now (kept p next)
plain_imports p now next (BlankOutside is) = record { source = []; is_source = is; becomes = step.Blank }
plain_imports p now next (RunEnds is) = record { source = []; is_source = is; becomes = step.RunEnds }
plain_imports p now next (InMethods {source} is some) = record { source = source; is_source = is; becomes = step.IsMethod some }
plain_imports p now next (PlainDoIt {source} {b} is some spells says) =
    record { source = source; is_source = is; becomes = subst (λ (r : Result Made Cause). step.Becomes p Outside source r) (spelled_next p b (replacement_in b) next says) (step.IsDoIt some spells) }

-- so it is imported as it is
pub all_imported : (now : Next) (left : Left) → AllStay now left → imported.Becomes now left (Ok left.rest)
all_imported now left (Over over e) = subst (λ (r : Result Text Refusal). imported.Becomes now left r) e (imported.Over over)
all_imported now left (Kept {next} {new} {p} t plain more) =
    let whole : (p.body ++ 33 ∷ []) ++ new.rest ≡ left.rest = append_assoc p.body (33 ∷ []) new.rest ∙ sym t.cut.whole in
    subst (λ (x : Text). imported.Becomes now left (Ok x)) whole (imported.Chunk t (plain_imports p now next plain) (all_imported next new more))

-- what is left from a place on
abbrev at : ℕ → ℕ → Text → Left
at n a rest = record { number = n; at = a; rest = rest }

-- what comes of what is left, of which each chunk stays, wherever it stands
record Whole (now : Next) (left : Left) (out : Text) : Type 0 where
  stays : (n a : ℕ) → AllStay now (at n a out)
  other : BeginsOtherwise 33 left.rest → BeginsOtherwise 33 out

-- what comes of a comment and what follows it
record Commented (class out : Text) : Type 0 where
  stays : (blanks : Text) → IsBlank blanks → (n a : ℕ) → AllStay Outside (at n a (blanks ++ out))
  starts : Starts out

-- what comes of what is left, by what the next chunk is
abbrev Goal : Next → Left → Text → Type 0
Goal Outside left out = Whole Outside left out
Goal InRun left out = Whole InRun left out
Goal (AtComment class n) left out = is_identifier class ≡ true → Commented class out

-- after a chunk that stays no comment is awaited
said_whole : (form : Form) (next : Next) (left : Left) (out : Text) → next_of form ≡ Some next → Goal next left out → Whole next left out
said_whole form Outside left out e g = g
said_whole form InRun left out e g = g
said_whole Evaluates (AtComment class n) left out e g = absurd (cc)
said_whole (Changes c) (AtComment class n) left out e g = absurd (cc)
said_whole (Opens r) (AtComment class n) left out e g = absurd (cc)
said_whole (OpensAt r k) (AtComment class n) left out e g = absurd (cc)
said_whole Settles (AtComment class n) left out e g = absurd (cc)
said_whole (Refuses cause) (AtComment class n) left out e g = absurd (cc)

doit_whole : (o : Option Replacement) (form : Form) (next : Next) (left : Left) (out : Text) → doit_next o form ≡ Some next → Goal next left out → Whole next left out
doit_whole None form next left out e g = said_whole form next left out e g
doit_whole (Some r) form Outside left out e g = g
doit_whole (Some r) form InRun left out e g = g
doit_whole (Some r) form (AtComment class n) left out e g = absurd (cc)

plain_whole : (body : Text) (now next : Next) (left : Left) (out : Text) → Plain body now next → Goal next left out → Whole next left out
plain_whole body now next left out (BlankOutside is) g = g
plain_whole body now next left out (RunEnds is) g = g
plain_whole body now next left out (InMethods is some) g = g
plain_whole body now next left out (PlainDoIt {b} is some spells says) g = doit_whole (replacement_in b) (form_of Second false b) next left out says g

-- before a chunk that stays no comment is awaited either
plain_goal : (body : Text) (now next : Next) (left : Left) (out : Text) → Plain body now next → Whole now left out → Goal now left out
plain_goal body now next left out (BlankOutside is) w = w
plain_goal body now next left out (RunEnds is) w = w
plain_goal body now next left out (InMethods is some) w = w
plain_goal body now next left out (PlainDoIt is some spells says) w = w

-- a body and its mark begin as they did
kept_other : (body rest out : Text) → BeginsOtherwise 33 (body ++ 33 ∷ rest) → BeginsOtherwise 33 ((body ++ 33 ∷ []) ++ out)
kept_other [] rest out h = h
kept_other (b ∷ body) rest out h = h

-- a chunk that stays
kept_whole : (now next : Next) (left new : Left) (p : Piece) (out : Text) → Takes left p new → Plain p.body now next → Whole next new out → Whole now left ((p.body ++ 33 ∷ []) ++ out)
kept_whole now next left new p out t plain w = record {
  stays = λ n a.
      let q : Piece = record { number = n; at = a; body = p.body; doubled = p.doubled } in
      let takes : Takes (at n a ((p.body ++ 33 ∷ []) ++ out)) q (left_behind q out) = record {
        number = refl;
        at = refl;
        cut = record { whole = append_assoc p.body (33 ∷ []) out; paired = t.cut.paired; other = w.other t.cut.other };
        doubled = t.doubled;
        after = refl;
      } in Kept takes plain (w.stays (n + 1) (a + (length p.body + 1)));
  other = λ h. kept_other p.body new.rest out (subst (BeginsOtherwise 33) t.cut.whole h);
}

-- the blanks before a chunk are blank
blanks_blank : (body : Text) → IsBlank (take (blank_len body) body)
blanks_blank [] = refl
blanks_blank (b ∷ s) = by (is_blank b) refl (blanks_blank s)
  where
    by : (x : Bool) → is_blank b ≡ x → IsBlank (take (blank_len s) s) → IsBlank (take (if x then 1 + blank_len s else 0) (b ∷ s))
    by false e h = refl
    by true e h =
        let one : take (1 + blank_len s) (b ∷ s) ≡ b ∷ take (blank_len s) s = grind arith in
        subst IsBlank (sym one) (ap (λ (y : Bool). if y then 1 + blank_len (take (blank_len s) s) else 0) e ∙ ap (λ k. 1 + k) h ∙ (let next : 1 + length (take (blank_len s) s) ≡ length (b ∷ take (blank_len s) s) = omega arith in next))

-- a source that is written after blanks, and what follows
written_stays : (blanks source out : Text) (next : Next) → IsBlank blanks → Says source next → ((n a : ℕ) → AllStay next (at n a out)) → BeginsOtherwise 33 out → (n a : ℕ) → AllStay Outside (at n a ((blanks ++ chunk_text source) ++ out))
written_stays blanks source out next blank says more other n a =
    let left = at n a ((blanks ++ chunk_text source) ++ out) in
    let whole : (blanks ++ chunk_text source) ++ out ≡ blanks ++ doubled 33 source ++ 33 ∷ out = simp append_assoc in
    let p = written_piece left blanks source in
    let is : IsSource (blanks ++ doubled 33 source) source = sym (drop_blanks-append blanks (doubled 33 source) blank ∙ drop_blanks-doubled source (starts_no_blank source says.starts)) in
    let body = length (blanks ++ doubled 33 source) in
    Kept (Takes-written left blanks source out blank other whole) (PlainDoIt is (starts_some source says.starts) says.spells says.says) (more (n + 1) (a + (body + 1)))

-- blanks and a text that begins with a letter do not begin with the mark
blank_other : (blanks out : Text) → IsBlank blanks → Starts out → BeginsOtherwise 33 (blanks ++ out)
blank_other [] out blank h = starts_otherwise out h
blank_other (b ∷ s) out blank h = λ mark. true≢false (sym (IsBlank-cons b s blank).first ∙ ap is_blank mark)

-- a chunk that was written starts with a letter
chunk_starts : (source out : Text) → Starts source → Starts (chunk_text source ++ out)
chunk_starts source out h = starts_append (chunk_text source) out (starts_append (doubled 33 source) (33 ∷ []) (starts_doubled source h))

-- a source that is written
written_whole : (left new : Left) (p : Piece) (source out : Text) (next : Next) → Says source next → ((n a : ℕ) → AllStay next (at n a out)) → BeginsOtherwise 33 out → Whole Outside left ((blanks_of p ++ chunk_text source) ++ out)
written_whole left new p source out next says more other = record {
  stays = written_stays (blanks_of p) source out next (blanks_blank p.body) says more other;
  other = λ h. subst (BeginsOtherwise 33) (sym (append_assoc (blanks_of p) (chunk_text source) out)) (blank_other (blanks_of p) (chunk_text source ++ out) (blanks_blank p.body) (chunk_starts source out says.starts));
}

-- a comment
comment_whole : Spelling → (class source out : Text) → Whole Outside (at 0 0 []) out → is_identifier class ≡ true → Commented class (chunk_text (comment_source class source) ++ out)
comment_whole law class source out w word =
    let says = says_comment_source law class source word in
    record {
      stays = λ blanks blank n a. subst (λ (x : Text). AllStay Outside (at n a x)) (append_assoc blanks (chunk_text (comment_source class source)) out) (written_stays blanks (comment_source class source) out Outside blank says w.stays (w.other tt) n a);
      starts = chunk_starts (comment_source class source) out says.starts;
    }

-- a chunk and what follows it
chunk_goal : Spelling → (now : Next) (left new : Left) (p : Piece) (m : Made) (out : Text) → Takes left p new → Step p now m → Goal m.next new out → Goal now left (m.text ++ out)
chunk_goal law now left new p m out t (steps.Stays plain e) g =
    subst (λ (x : Text). Goal now left (x ++ out)) (sym e) (plain_goal p.body now m.next left _ plain (kept_whole now m.next left new p out t plain (plain_whole p.body now m.next new out plain g)))
chunk_goal law now left new p m out t (steps.Writes source says e) g =
    let w = doit_whole (replacement_in says.tree) (form_of Second false says.tree) m.next new out says.says g in
    subst (λ (x : Text). Whole Outside left (x ++ out)) (sym e) (written_whole left new p source out m.next says w.stays (w.other t.cut.other))
chunk_goal law now left new p m out t (steps.Announces class n word e next) g =
    let c : Commented class out = subst (λ (x : Next). Goal x new out) next g word in
    subst (λ (x : Text). Whole Outside left (x ++ out)) (sym e) (record {
      stays = λ k a. c.stays (blanks_of p) (blanks_blank p.body) k a;
      other = λ h. blank_other (blanks_of p) out (blanks_blank p.body) c.starts;
    })
chunk_goal law now left new p m out t (steps.Comments {class} {n} source e next) g = λ word.
    let w : Whole Outside new out = subst (λ (x : Next). Goal x new out) next g in
    subst (λ (x : Text). Commented class (x ++ out)) (sym e) (comment_whole law class source out (record { stays = w.stays; other = λ h. w.other t.cut.other }) word)

-- nothing is left
over_goal : (now : Next) (left : Left) (out : Text) → IsOver left → ended now left.rest ≡ Ok out → Goal now left out
over_goal Outside left out over e = let same : left.rest ≡ out = cc in subst (λ (x : Text). Whole Outside left x) same (record { stays = λ n a. Over over refl; other = λ h. h })
over_goal InRun left out over e = let same : left.rest ≡ out = cc in subst (λ (x : Text). Whole InRun left x) same (record { stays = λ n a. Over over refl; other = λ h. h })
over_goal (AtComment class n) left out over e = absurd (cc)

-- what follows a chunk, if there is something
after_made : (text : Text) (r : Result Text Refusal) (out : Text) → after text r ≡ Ok out → (rest : Text) × (r ≡ Ok rest) × (text ++ rest ≡ out)
after_made text (Ok rest) out e = let same : text ++ rest ≡ out = cc in (rest, refl, same)
after_made text (Err r) out e = absurd (cc)

-- what comes of all that is left
goal_of : Spelling → (now : Next) (left : Left) (r : Result Text Refusal) → imported.Becomes now left r → (out : Text) → r ≡ Ok out → Goal now left out
goal_of law now left r (imported.Over over) out e = over_goal now left out over e
goal_of law now left r (imported.Cut cut) out e = absurd (cc)
goal_of law now left r (imported.Chunk {new} {p} {m} {r = x} t i more) out e =
    let rest = after_made m.text x out e in
    subst (λ (y : Text). Goal now left y) rest.2 (chunk_goal law now left new p m rest.0 t (steps.steps law p now m i) (goal_of law m.next new x more rest.0 rest.1))
goal_of law now left r (imported.Refused t i) out e = absurd (cc)

-- each chunk of what was imported stays
pub stays : Spelling → (text out : Text) → IsImported text (Ok out) → AllStay Outside (start_of out)
stays law text out is = let w : Whole Outside (start_of (without_mark text)) out = goal_of law Outside (start_of (without_mark text)) (Ok out) is out refl in w.stays 1 0

-- it has no byte order mark
no_plain : (body t : Text) (next : Next) → Plain body Outside next → body ≡ 239 ∷ t → ⊥
no_plain body t next (BlankOutside is) begins = let whole : [] ≡ 239 ∷ t = is ∙ ap drop_blanks begins in cc
no_plain body t next (PlainDoIt {source} {b} is some spells says) begins =
    let first = doubled_first 239 no_mark source t (is ∙ ap drop_blanks begins) in no_doit first.0 b (subst (λ (x : Text). SpellsDoIt Second x b) first.1 spells)

no_mark_first : (left : Left) (s : Text) → left.rest ≡ 239 ∷ s → AllStay Outside left → ⊥
no_mark_first left s begins (Over over e) = omega (arith, sym (ap blank_len begins) ∙ over.1 ∙ ap length begins)
no_mark_first left s begins (Kept {next} {new} {p} t plain more) =
    let body = body_begins 239 no_mark p.body s new.rest (sym begins ∙ t.cut.whole) in no_plain p.body body.0 next plain body.1

-- it is imported again as it is
pub imports_again : Spelling → (text out : Text) → IsImported text (Ok out) → IsImported out (Ok out)
imports_again law text out is =
    let all = stays law text out is in
    let same = unmarked out (λ s e. no_mark_first (start_of out) s e all) in
    subst (λ (t : Text). imported.Becomes Outside (start_of t) (Ok out)) (sym same) (all_imported Outside (start_of out) all)
