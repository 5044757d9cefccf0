-- Each line of a command says one thing.
use Rattle.std.proofs.Common.{◌≡◌, ◌⊎◌, inl, inr, Bool, true, false, Option, Some, None, Result, Ok, Err, refl, sym, subst, ◌∙◌, true≢false}
use Rattle.std.proofs.lemmas.Bool.Decides.{Decides-eqb}
use Rattle.std.proofs.lemmas.Slice.Eq.{slice_eq-Decides}
use Rattle.rb_base.specs.Names.{text_eq}
use Rattle.token_model.specs.declared.kind.Dialect.TheVariants.{Second}
use Rattle.tree_model.specs.Tree.{MethodOf}
use Rattle.grammar_model.specs.Whole.{Method}
use Rattle.grammar_model.specs.Checks.{Fault}
use Rattle.grammar_model.specs.Spelling.{SpellsMethod, HasFirstFault}
use Rattle.command_model.specs.Commands.{AddMethod}
use Rattle.session_model.specs.Scripts.{Request}
use Rattle.script_model.specs.Makers.{Text, single}
use Rattle.script_model.specs.Commands.{Cause, BadArgument}
use Rattle.script_model.specs.Additions.{Addition, addition_of, behind_word, AddsMethod, Spelled, Incomplete, Faulty}
use Rattle.script_model.specs.Words.{add_method, add_parameter}
use Rattle.script_model.specs.Additions.{first_word}
use Rattle.script_model.specs.Scripts.{said, adds_method, adds_parameter, CommandSays, InWords, InText, InLiteral}
use Rattle.script_model.proofs.ParameterAnswers.{one-parameter, some-parameter}

-- what a line of a command says
abbrev Answer : Type 0
Answer = Result Request Cause

-- a line has one first word
same-word : (w v : Text) → text_eq w v ≡ true → w ≡ v
same-word w v e = (slice_eq-Decides Decides-eqb w v (text_eq w v) refl).0 e

either-word : (line : Text) → adds_method line ≡ true → adds_parameter line ≡ true → ⊥
either-word line adds also =
    let one = same-word (first_word line) add_method adds in
    let other = same-word (first_word line) add_parameter also in
    let both : add_method ≡ add_parameter = sym one ∙ other in
    absurd (cc both)

-- a text of a method spells one tree or has a fault
abbrev Spells : Text → MethodOf Text → Type 0
Spells text tree = SpellsMethod Second false text tree

abbrev HasFault : Text → Fault → Type 0
HasFault text fault = HasFirstFault Second (Method false) text fault

abbrev pub OneTree : Type 0
OneTree = (text : Text) (tree other : MethodOf Text) → SpellsMethod Second false text tree → SpellsMethod Second false text other → tree ≡ other

abbrev pub NotBoth : Type 0
NotBoth = (text : Text) (tree : MethodOf Text) (fault : Fault) → SpellsMethod Second false text tree → ¬ HasFirstFault Second (Method false) text fault

abbrev pub TreeOrFault : Type 0
TreeOrFault = (text : Text) → ((tree : MethodOf Text) × SpellsMethod Second false text tree) ⊎ ((fault : Fault) × HasFirstFault Second (Method false) text fault)

-- one addition, which is there or not
same-addition : {o : Option Addition} {a b : Addition} → o ≡ Some a → o ≡ Some b → a ≡ b
same-addition p q = let both = sym p ∙ q in cc

no-addition : {o : Option Addition} {a : Addition} → o ≡ Some a → o ≡ None → ⊥
no-addition p q = let both = sym p ∙ q in absurd (cc)

module _ (one_tree : OneTree) (not_both : NotBoth) where
  -- one answer to what is added
  adds-one : (t : Text) (r s : Answer) → AddsMethod t r → AddsMethod t s → r ≡ s
  adds-one t r s (Spelled a tree is spells answer) (Spelled b other be spelled says) =
      let same : a ≡ b = same-addition is be in
      let trees : tree ≡ other = one_tree b.text tree other (subst (λ (x : Addition). Spells x.text tree) same spells) spelled in
      answer ∙ (λ i. let o : Answer = Ok (single (AddMethod (same i).class (same i).meta (same i).protocol (same i).text (trees i))) in o) ∙ sym says
  adds-one t r s (Spelled a tree is spells answer) (Incomplete none says) = absurd (no-addition is none)
  adds-one t r s (Spelled a tree is spells answer) (Faulty b fault be faulty says) =
      absurd (not_both b.text tree fault (subst (λ (x : Addition). Spells x.text tree) (same-addition is be) spells) faulty)
  adds-one t r s (Incomplete none answer) (Spelled b other be spelled says) = absurd (no-addition be none)
  adds-one t r s (Incomplete none answer) (Incomplete nothing says) = answer ∙ sym says
  adds-one t r s (Incomplete none answer) (Faulty b fault be faulty says) = absurd (no-addition be none)
  adds-one t r s (Faulty a fault is faulty answer) (Spelled b other be spelled says) =
      absurd (not_both a.text other fault (subst (λ (x : Addition). Spells x.text other) (same-addition be is) spelled) faulty)
  adds-one t r s (Faulty a fault is faulty answer) (Incomplete none says) = absurd (no-addition is none)
  adds-one t r s (Faulty a fault is faulty answer) (Faulty b other be wrong says) = answer ∙ sym says

  -- and to a line
  pub command-one : (line : Text) (r s : Answer) → CommandSays line r → CommandSays line s → r ≡ s
  command-one line r s (InWords plain too answer) (InWords plainly also says) = answer ∙ sym says
  command-one line r s (InWords plain too answer) (InText adds says) = absurd (true≢false (sym adds ∙ plain))
  command-one line r s (InWords plain too answer) (InLiteral adds says) = absurd (true≢false (sym adds ∙ too))
  command-one line r s (InText adds answer) (InWords plain too says) = absurd (true≢false (sym adds ∙ plain))
  command-one line r s (InText adds answer) (InText also says) = adds-one (behind_word line) r s answer says
  command-one line r s (InText adds answer) (InLiteral also says) = absurd (either-word line adds also)
  command-one line r s (InLiteral adds answer) (InWords plain too says) = absurd (true≢false (sym adds ∙ too))
  command-one line r s (InLiteral adds answer) (InText also says) = absurd (either-word line also adds)
  command-one line r s (InLiteral adds answer) (InLiteral also says) = one-parameter (behind_word line) r s answer says

module _ (tree_or_fault : TreeOrFault) where
  -- some answer to what is added
  adds-some : (t : Text) → (r : Answer) × AddsMethod t r
  adds-some t = by (addition_of t) refl
    where
      spelled : (a : Addition) → addition_of t ≡ Some a → ((tree : MethodOf Text) × Spells a.text tree) ⊎ ((fault : Fault) × HasFault a.text fault) → (r : Answer) × AddsMethod t r
      spelled a is (inl found) = (Ok (single (AddMethod a.class a.meta a.protocol a.text found.0)), Spelled a found.0 is found.1 refl)
      spelled a is (inr wrong) = (Err BadArgument, Faulty a wrong.0 is wrong.1 refl)

      by : (o : Option Addition) → addition_of t ≡ o → (r : Answer) × AddsMethod t r
      by None none = (Err BadArgument, Incomplete none refl)
      by (Some a) is = spelled a is (tree_or_fault a.text)

  -- and to a line
  pub command-some : (line : Text) → (r : Answer) × CommandSays line r
  command-some line = by (adds_method line) (adds_parameter line) refl refl
    where
      by : (b c : Bool) → adds_method line ≡ b → adds_parameter line ≡ c → (r : Answer) × CommandSays line r
      by true c adds too = let some = adds-some (behind_word line) in (some.0, InText adds some.1)
      by false true plain adds = let some = some-parameter (behind_word line) in (some.0, InLiteral adds some.1)
      by false false plain too = (said line, InWords plain too refl)
