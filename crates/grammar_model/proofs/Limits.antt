-- What a text spells keeps the limits.
use Rattle.std.proofs.Common.{◌≡◌, ℕ, ◌≤◌, arith, Bool, true, false, List, [], ◌∷◌, Option, Some, None, refl, ap, sym, subst, ◌∙◌, max}
use Rattle.std.specs.Prelude.{if◌then◌else◌, nat_lt, option_map}
use Rattle.std.specs.Option.{option_or}
use Rattle.token_model.specs.declared.kind.Dialect.{Dialect}
use Rattle.tree_model.specs.Tree.{Notes, StatementsOf, no_statements, more_statements, SequenceOf, MethodOf}
use Rattle.tree_model.specs.Normal.{normal_by, without_leading_of, IsNormal}
use Rattle.tree_model.proofs.NormalLemmas.{IsNormal-normal}
use Rattle.tree_model.specs.Measure.{height, statements_height, sequence_height}
use Rattle.grammar_model.specs.Terminal.{Text}
use Rattle.grammar_model.specs.Ahead.{Longest}
use Rattle.grammar_model.specs.Input.{Input}
use Rattle.std.proofs.lemmas.Bool.{ltb-false}
use Rattle.grammar_model.specs.Spanned.{Declared, SpannedStatements, NoStatements, MoreStatements, SpannedSequence, names_of, plain_tree, plain_statements, plain_sequence}
use Rattle.grammar_model.specs.Whole.{Behind, Plainly, Primitively}
use Rattle.grammar_model.specs.Checks.{TooDeep, first_tall, sequence_fault}
use Rattle.grammar_model.specs.Spelling.{SpellsDoIt, SpellsMethod}

-- a first choice that is none
second_none : {A : Type 0} (a b : Option A) → option_or a b ≡ None → b ≡ None
second_none None b e = e
second_none (Some x) b e = cc

-- a changed value that is none
map_none : {A B : Type 0} (f : A → B) (o : Option A) → option_map f o ≡ None → o ≡ None
map_none f None e = refl
map_none f (Some x) e = cc

-- a statement that is not too high, before others
tall_step : (b : Bool) (h rest f : ℕ) (o : Option ℕ) → nat_lt 200 h ≡ b → (o ≡ None → rest ≤ 200) → (if b then Some f else o) ≡ None → max h rest ≤ 200
tall_step true h rest f o is later e = cc
tall_step false h rest f o is later e = let low : h ≤ 200 = ltb-false 200 h is in omega (arith, low, later e)

-- no statement is too high
not_tall : (ss : SpannedStatements) → first_tall ss ≡ None → statements_height (plain_statements ss) ≤ 200
not_tall NoStatements e = omega arith
not_tall (MoreStatements c f t ss) e = tall_step (nat_lt 200 (height (plain_tree t))) (height (plain_tree t)) (statements_height (plain_statements ss)) f (first_tall ss) refl (not_tall ss) e

-- a sequence without a fault keeps the limit
sequence_limit : (ps : List Declared) (s : SpannedSequence) → sequence_fault ps s ≡ None → statements_height (plain_statements s.statements) ≤ 200
sequence_limit ps s e = not_tall s.statements (map_none TooDeep (first_tall s.statements) (second_none _ _ (second_none _ _ e)))

-- taking the first comments away changes no height
without_height : (ts : List Text) (ss : StatementsOf Text) (tail : Notes) → statements_height (without_leading_of ts ss tail).statements ≡ statements_height ss
without_height ts no_statements tail = refl
without_height ts (more_statements c t ss) tail = refl

-- the normal form of comments changes no height
normal_height : (ts : List Text) (m : MethodOf Text) → sequence_height (normal_by ts m).body ≡ sequence_height m.body
normal_height [] m = without_height m.body.temporaries m.body.statements m.body.tail
normal_height (n ∷ ns) m = refl

-- nor a primitive
normal_primitive : (ts : List Text) (m : MethodOf Text) → (normal_by ts m).primitive ≡ m.primitive
normal_primitive [] m = refl
normal_primitive (n ∷ ns) m = refl

-- what a do-it spells is not too high
pub limit_DoIt : (d : Dialect) (t : Text) (s : SequenceOf Text) → SpellsDoIt d t s → sequence_height s ≤ 200
limit_DoIt d t s h = subst (λ (s : SequenceOf Text). sequence_height s ≤ 200) (sym h.same) (sequence_limit [] h.spanned h.spells.sound)

-- nor is what a method spells
pub limit_Method : (d : Dialect) (kernel : Bool) (t : Text) (m : MethodOf Text) → SpellsMethod d kernel t m → sequence_height m.body ≤ 200
limit_Method d kernel t m h =
    let w = h.spanned in
    let p : MethodOf Text = record { selector = w.selector; arguments = names_of w.arguments; head = w.opening; primitive = w.primitive; body = plain_sequence w.body } in
    let low : sequence_height (normal_by (names_of w.body.temporaries) p).body ≤ 200 = subst (λ n. n ≤ 200) (sym (normal_height (names_of w.body.temporaries) p)) (sequence_limit w.arguments w.body h.spells.sound) in
    subst (λ (m : MethodOf Text). sequence_height m.body ≤ 200) (sym h.same) low

-- a user's method has no primitive behind its pattern
behind_user : {kernel : Bool} {i j : Input} {c : Notes} {n : Option ℕ} {ds : List Declared} {ss : SpannedStatements} → Behind Longest kernel i c n ds ss j → kernel ≡ false → n ≡ None
behind_user (Plainly b) e = refl
behind_user (Primitively p) e = cc

-- a user's method has no primitive
pub user_Method : (d : Dialect) (t : Text) (m : MethodOf Text) → SpellsMethod d false t m → m.primitive ≡ None
user_Method d t m h =
    let w = h.spanned in
    let p : MethodOf Text = record { selector = w.selector; arguments = names_of w.arguments; head = w.opening; primitive = w.primitive; body = plain_sequence w.body } in
    ap (λ (m : MethodOf Text). m.primitive) h.same ∙ normal_primitive (names_of w.body.temporaries) p ∙ behind_user h.spells.grammar.behind refl

-- a method's comments are in normal form
pub normal_Method : (d : Dialect) (kernel : Bool) (t : Text) (m : MethodOf Text) → SpellsMethod d kernel t m → IsNormal m
normal_Method d kernel t m h =
    let w = h.spanned in
    let p : MethodOf Text = record { selector = w.selector; arguments = names_of w.arguments; head = w.opening; primitive = w.primitive; body = plain_sequence w.body } in
    subst IsNormal (sym h.same) (IsNormal-normal p)
