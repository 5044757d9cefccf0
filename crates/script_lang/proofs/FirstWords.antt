-- Lines by their first word.
use Rattle.std.proofs.Common.{◌≡◌, ℕ, suc, ◌+◌, Bool, true, false, not, List, [], ◌∷◌, length, take, drop, Result, Err, refl, sym, ap, subst, ◌∙◌, arith}
use Rattle.std.specs.Prelude.{cond}
use Rattle.std.specs.List.{slice_split, onto_first}
use Rattle.std.proofs.lemmas.Bool.{ne_eqb}
use Rattle.ruled_model.specs.RuledScripts.{Line}
use Rattle.chunk_format.specs.Blank.{is_blank, blank_len, drop_blanks}
use Rattle.script_model.specs.Makers.{Text}
use Rattle.script_model.specs.Lines.{words_of}
use Rattle.script_model.specs.Commands.{Cause, UnknownCommand, BadArgument, said_by}
use Rattle.script_model.specs.Additions.{word_len, first_word, behind_word}
use Rattle.script_model.specs.Scripts.{InWords, InText, InLiteral, LineSays, OfCommand, OfRule, IsWrong}
use Rattle.script_lang.specs.declared.verb.LineVerb.{LineVerb}
use Rattle.script_lang.specs.declared.verb.LineVerb.TheVariants as line_verb
use Rattle.script_lang.specs.Shown.{filled}
use Rattle.script_lang.specs.Read.{BeginsWith, BeginsWithNone, Asks}

-- the parts of a text, and the words among them
abbrev parts : Text → List Text
parts t = slice_split is_blank t

-- the first part ends at the first blank, and behind it stand the words behind that
record IsCut (t : Text) (n : ℕ) (ps : List Text) : Type 0 where
  pub rest : List Text
  pub front : ps ≡ take n t ∷ rest
  pub words : filled rest ≡ words_of (drop n t)

cut : (t : Text) → IsCut t (word_len t) (parts t)
cut [] = record { rest = []; front = refl; words = refl }
cut (b ∷ t) = by (is_blank b) refl (cut t)
  where
    by : (c : Bool) → is_blank b ≡ c → IsCut t (word_len t) (parts t) → IsCut (b ∷ t) (cond (not c) (1 + word_len t) 0) (cond c ([] ∷ parts t) (onto_first b (parts t)))
    by true e h = record { rest = parts t; front = refl; words = ap (λ (c : Bool). filled (cond c ([] ∷ parts t) (onto_first b (parts t)))) (sym e) }
    by false e h =
        let one : suc (word_len t) ≡ 1 + word_len t = omega arith in
        subst (λ (n : ℕ). IsCut (b ∷ t) n (onto_first b (parts t))) one (record { rest = h.rest; front = ap (onto_first b) h.front; words = h.words })

-- a line begins with its first word, or has none
data Begins (t : Text) : Type 0 where
  Word : words_of t ≡ first_word t ∷ words_of (behind_word t) → Begins t
  Blank : first_word t ≡ [] → words_of t ≡ [] → Begins t

begins : (t : Text) → Begins t
begins [] = Blank refl refl
begins (b ∷ t) = by (is_blank b) refl (begins t)
  where
    by : (c : Bool) → is_blank b ≡ c → Begins t → Begins (b ∷ t)
    by true e h =
        let one : 1 + blank_len t ≡ suc (blank_len t) = omega arith in
        let same : drop_blanks (b ∷ t) ≡ drop_blanks t = ap (λ (c : Bool). drop (cond c (1 + blank_len t) 0) (b ∷ t)) e ∙ ap (λ (n : ℕ). drop n (b ∷ t)) one in
        let less : words_of (b ∷ t) ≡ words_of t = ap (λ (c : Bool). filled (cond c ([] ∷ parts t) (onto_first b (parts t)))) e in
        go same less h
      where
        go : drop_blanks (b ∷ t) ≡ drop_blanks t → words_of (b ∷ t) ≡ words_of t → Begins t → Begins (b ∷ t)
        go same less (Word is) = Word (less ∙ is ∙ ap (λ (d : Text). take (word_len d) d ∷ words_of (drop (word_len d) d)) (sym same))
        go same less (Blank none nothing) = Blank (ap (λ (d : Text). take (word_len d) d) same ∙ none) (less ∙ nothing)
    by false e h =
        let here = cut t in
        let same : drop_blanks (b ∷ t) ≡ b ∷ t = ap (λ (c : Bool). drop (cond c (1 + blank_len t) 0) (b ∷ t)) e in
        let one : suc (word_len t) ≡ 1 + word_len t = omega arith in
        let long : suc (word_len t) ≡ word_len (b ∷ t) = one ∙ ap (λ (c : Bool). cond (not c) (1 + word_len t) 0) (sym e) in
        let words : words_of (b ∷ t) ≡ (b ∷ take (word_len t) t) ∷ words_of (drop (word_len t) t) =
        ap (λ (c : Bool). filled (cond c ([] ∷ parts t) (onto_first b (parts t)))) e
        ∙ ap (λ (ps : List Text). filled (onto_first b ps)) here.front
        ∙ ap (λ (c : Bool). cond (not c) ((b ∷ take (word_len t) t) ∷ filled here.rest) (filled here.rest)) (ne_eqb (length (b ∷ take (word_len t) t)) 0 (λ z. omega (arith, z)))
        ∙ ap (λ (ws : List Text). (b ∷ take (word_len t) t) ∷ ws) here.words in
        Word (words ∙ ap (λ (n : ℕ). take n (b ∷ t) ∷ words_of (drop n (b ∷ t))) long ∙ ap (λ (d : Text). take (word_len d) d ∷ words_of (drop (word_len d) d)) (sym same))

-- a line says what its command asks for with the text behind the first word
line-says : (line : Text) (v : LineVerb) (answer : Result Line Cause) → BeginsWith v (first_word line) → Asks v (behind_word line) answer → LineSays line answer
line-says line line_verb.ApplyRule answer begun says = OfRule says.0 begun says.1 says.2
line-says line line_verb.AddMethod answer begun says = OfCommand says.said begun.0 (InText begun.1 says.says) says.is
line-says line line_verb.AddParameter answer begun says = OfCommand says.said begun.0 (InLiteral begun.1 says.says) says.is
line-says line (line_verb.Words v) answer begun says = by (begins line)
  where
    by : Begins line → LineSays line answer
    by (Word is) =
        OfCommand says.said begun.0.0
        (InWords begun.0.1 begun.0.2 (says.says ∙ ap (λ (w : Text). said_by (w ∷ words_of (behind_word line))) (sym begun.1) ∙ ap said_by (sym is))) says.is
    by (Blank none nothing) =
        OfCommand says.said begun.0.0
        (InWords begun.0.1 begun.0.2 (says.says ∙ ap (λ (w : Text). said_by (w ∷ words_of (behind_word line))) (sym begun.1 ∙ none) ∙ ap said_by (sym nothing))) says.is

-- a line whose first word is no command's
line-unknown : (line : Text) → BeginsWithNone (first_word line) → LineSays line (Err UnknownCommand)
line-unknown line none = by (begins line)
  where
    by : Begins line → LineSays line (Err UnknownCommand)
    by (Word is) = OfCommand (Err UnknownCommand) none.0.0 (InWords none.0.1 none.0.2 (sym (ap said_by is ∙ none.1 (words_of (behind_word line))))) refl
    by (Blank empty nothing) = OfCommand (Err UnknownCommand) none.0.0 (InWords none.0.1 none.0.2 (ap said_by (sym nothing))) refl

-- the same of a word that is the first one, and of the text behind it
module _ (line word : Text) (first : word ≡ first_word line) where
  pub says-in : (rest : Text) (v : LineVerb) (answer : Result Line Cause) → rest ≡ behind_word line → BeginsWith v word → Asks v rest answer → LineSays line answer
  says-in rest v answer behind begun says = line-says line v answer (subst (BeginsWith v) first begun) (subst (λ (t : Text). Asks v t answer) behind says)

  pub wrong-in : (count : ℕ) (rest : Text) (v : LineVerb) → rest ≡ behind_word line → BeginsWith v word → Asks v rest (Err BadArgument) → IsWrong line count BadArgument
  wrong-in count rest v behind begun says = record { answer = Err BadArgument; says = says-in rest v (Err BadArgument) behind begun says; wrong = refl }

  pub unknown-in : (count : ℕ) → BeginsWithNone word → IsWrong line count UnknownCommand
  unknown-in count none = record { answer = Err UnknownCommand; says = line-unknown line (subst BeginsWithNone first none); wrong = refl }
