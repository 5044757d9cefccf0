-- Lines that are read one by one.
use Rattle.std.proofs.Common.{◌≡◌, ℕ, ◌+◌, ◌<◌, Bool, true, false, not, List, [], ◌∷◌, ◌++◌, length, take, drop, get_or, Ok, sym, ap, subst, ◌∙◌, arith, length-append}
use Rattle.std.specs.Prelude.{cond}
use Rattle.std.specs.Borrow.{Bor}
use Rattle.std.proofs.lemmas.List.{map-append, length-map, append-nil, take-append-drop, take_more, drop_more, length-take-le}
use Rattle.std.proofs.lemmas.List.Elements.{filter-append}
use Rattle.grammar_model.specs.Terminal.{Text}
use Rattle.event_trees.specs.Naming.{Grows}
use Rattle.ruled_model.specs.RuledScripts.{Line}
use Rattle.script_model.specs.Lines.{lines_of, is_skipped, spoken}
use Rattle.script_model.specs.Commands as script
use Rattle.script_model.specs.Scripts.{LineSays, EachSays, IsWrong, IsRefused}
use Rattle.script_lang.specs.Shown.{line_in, lines_in, IsKnownLine, AreKnown, texts}
use Rattle.script_lang.specs.declared.asked.ScriptLine.{ScriptLine}
use Rattle.script_lang.specs.Read.{HasRead, HasAsked}
use Rattle.script_lang.proofs.Growing.{lines-grown, all_known-grown}

-- one more line
spoken-more : (lines : List Text) (line : Text) → spoken (lines ++ line ∷ []) ≡ spoken lines ++ spoken (line ∷ [])
spoken-more lines line = filter-append (λ (l : Text). not (is_skipped l)) lines (line ∷ [])

says-more : (ls : List Text) (rs : List Line) (l : Text) (r : Line) → EachSays ls rs → LineSays l (Ok r) → EachSays (ls ++ l ∷ []) (rs ++ r ∷ [])
says-more [] [] l r each says = (says, tt)
says-more [] (q ∷ qs) l r each says = absurd each
says-more (k ∷ ks) [] l r each says = absurd each
says-more (k ∷ ks) (q ∷ qs) l r each says = (each.0, says-more ks qs l r each.1 says)

-- a line that says nothing, and one that says something
silent : (line : Text) → is_skipped line ≡ true → spoken (line ∷ []) ≡ []
silent line h = ap (λ (b : Bool). cond (not b) (line ∷ []) []) h

speaks : (line : Text) → is_skipped line ≡ false → spoken (line ∷ []) ≡ line ∷ []
speaks line h = ap (λ (b : Bool). cond (not b) (line ∷ []) []) h

-- before the first line nothing is read
pub read-none : (names : List Text) (cs : List ScriptLine) (lines : List Text) → cs ≡ [] → lines ≡ [] → HasRead names cs lines
read-none names cs lines none no_lines =
    let first : HasRead names [] [] = record { known = tt; say = record { each = tt; few = omega arith } } in
    subst (λ (ls : List Text). HasRead names cs ls) (sym no_lines) (subst (λ (ds : List ScriptLine). HasRead names ds []) (sym none) first)

module _ {names : List Text} {cs : List ScriptLine} {before : List Text} (read : HasRead names cs before) (line : Text) where
  -- behind a line that says nothing
  read-skipped : (later : List Text) (new : List ScriptLine) → Grows names later → is_skipped line ≡ true → new ≡ cs → HasRead later new (before ++ line ∷ [])
  read-skipped later new g h same =
      let list : lines_in later new ≡ lines_in names cs = ap (lines_in later) same ∙ lines-grown g cs read.known in
      record {
        known = subst (AreKnown later) (sym same) (all_known-grown g cs read.known);
        say = record {
          each =
              subst (λ (ls : List Text). EachSays ls (lines_in later new))
              (sym (spoken-more before line ∙ ap (λ (ls : List Text). spoken before ++ ls) (silent line h) ∙ append-nil (spoken before)))
              (subst (EachSays (spoken before)) (sym list) read.say.each);
          few = omega (arith, read.say.few, ap length list);
        };
      }

  -- behind a line that asks for something
  read-more : (later : List Text) (r : ScriptLine) (new : List ScriptLine) → Grows names later → is_skipped line ≡ false → LineSays line (Ok (line_in later r)) → IsKnownLine later r → length cs < 10000 → new ≡ cs ++ r ∷ []
      → HasRead later new (before ++ line ∷ [])
  read-more later r new g h says known room more =
      let list : lines_in later new ≡ lines_in names cs ++ line_in later r ∷ [] =
      ap (lines_in later) more ∙ map-append (line_in later) cs (r ∷ []) ∙ ap (λ (ds : List Line). ds ++ line_in later r ∷ []) (lines-grown g cs read.known) in
      record {
        known = subst (AreKnown later) (sym more) (both cs (all_known-grown g cs read.known));
        say = record {
          each =
              subst (λ (ls : List Text). EachSays ls (lines_in later new))
              (sym (spoken-more before line ∙ ap (λ (ls : List Text). spoken before ++ ls) (speaks line h)))
              (subst (EachSays (spoken before ++ line ∷ [])) (sym list) (says-more (spoken before) (lines_in names cs) line (line_in later r) read.say.each says));
          few = omega (arith, room, ap length list, length-append (lines_in names cs) (line_in later r ∷ []), length-map cs (line_in names));
        };
      }
    where
      both : (ds : List ScriptLine) → AreKnown later ds → AreKnown later (ds ++ r ∷ [])
      both [] k = (known, tt)
      both (d ∷ ds) k = (k.0, both ds k.1)

  -- a line that is wrong
  pub read-wrong : (text : Text) (after : List Text) (n : ℕ) (cause : script.Cause) → lines_of text ≡ before ++ line ∷ after → n ≡ length before + 1 → is_skipped line ≡ false → IsWrong line (length cs) cause → IsRefused text n cause
  read-wrong text after n cause parts numbered h wrong = record {
    before = before;
    line = line;
    after = after;
    requests = lines_in names cs;
    parts = parts;
    numbered = numbered;
    said_before = read.say;
    says_something = h;
    wrong = subst (λ (k : ℕ). IsWrong line k cause) (sym (length-map cs (line_in names))) wrong;
  }

-- the lines as far as an index, and the one there
taken : (ls : List (Bor Text)) (i : ℕ) (d : Bor Text) → i < length ls → texts (take (i + 1) ls) ≡ texts (take i ls) ++ (get_or ls i d).now ∷ []
taken ls i d lt = ap texts (take_more ls i d lt) ∙ map-append (λ (w : Bor Text). w.now) (take i ls) (get_or ls i d ∷ [])

module _ {names : List Text} {cs : List ScriptLine} (ls : List (Bor Text)) (i : ℕ) (d : Bor Text) (read : HasRead names cs (texts (take i ls))) (lt : i < length ls) (later : List Text) (g : Grows names later) where
  -- behind the line of an index that says nothing
  pub skipped-at : is_skipped (get_or ls i d).now ≡ true → (new : List ScriptLine) → new ≡ cs → HasRead later new (texts (take (i + 1) ls))
  skipped-at says new same = subst (HasRead later new) (sym (taken ls i d lt)) (read-skipped read (get_or ls i d).now later new g says same)

  -- behind one that asks for something
  pub read-at : is_skipped (get_or ls i d).now ≡ false → (new : List ScriptLine) → HasAsked later (get_or ls i d).now cs new → HasRead later new (texts (take (i + 1) ls))
  read-at says new asks = subst (HasRead later new) (sym (taken ls i d lt)) (read-more read (get_or ls i d).now later asks.line new g says asks.says asks.known asks.room asks.added)

-- the line of an index is wrong
pub wrong-at : {names : List Text} {cs : List ScriptLine} (ls : List (Bor Text)) (i : ℕ) (d : Bor Text) → HasRead names cs (texts (take i ls)) → i < length ls
    → (text : Text) (n : ℕ) (cause : script.Cause) → lines_of text ≡ texts ls → n ≡ i + 1 → is_skipped (get_or ls i d).now ≡ false → IsWrong (get_or ls i d).now (length cs) cause → IsRefused text n cause
wrong-at ls i d read lt text n cause same number h wrong =
    let cut : texts ls ≡ texts (take i ls) ++ (get_or ls i d).now ∷ texts (drop (i + 1) ls) =
    ap texts (sym (take-append-drop i ls) ∙ ap (λ (ws : List (Bor Text)). take i ls ++ ws) (drop_more ls i d lt)) ∙ map-append (λ (w : Bor Text). w.now) (take i ls) (get_or ls i d ∷ drop (i + 1) ls) in
    let numbered : n ≡ length (texts (take i ls)) + 1 = omega (arith, number, length-map (take i ls) (λ (w : Bor Text). w.now), length-take-le i ls (omega (arith, lt))) in
    read-wrong read (get_or ls i d).now text (texts (drop (i + 1) ls)) n cause (same ∙ cut) numbered h wrong
