-- A sequence that changes after a part in it is replaced.
use Rattle.std.proofs.Common.{◌≡◌, ℕ, List, [], ◌∷◌, ◌++◌, Option, Some, option_map, refl, sym, ap, ◌∙◌}
use Rattle.std.specs.Prelude.{unwrap_or}
use Rattle.tree_model.specs.Tree.{TreeOf, block, StatementsOf, SequenceOf, MethodOf}
use Rattle.tree_model.specs.Path.{part_in, statements_replaced, replaced, replaced_in, method_replaced}
use Rattle.tree_model.proofs.Parts.{replaced-append, replaced-block, part_in-replaced_in, replaced_in-replaced_in}
use Rattle.grammar_model.specs.Checks.{Known}
use Rattle.file_model.specs.Filing.{Text}
use Rattle.command_model.specs.Sequences.{block_changed, sequence_changed}
use Rattle.code_effect_laws.proofs.Methods.{IsSequenceAt, IsBody, IsInBlock}

-- the statements of a block
abbrev statements_in : TreeOf Text → StatementsOf Text → StatementsOf Text
statements_in (block ps ts ss e) other = ss
statements_in t other = other

-- a part of a part of a sequence is replaced
replaced_in-append : (b : SequenceOf Text) (k : ℕ) (ks rest : List ℕ) (c u : TreeOf Text) → part_in b (k ∷ ks) ≡ Some c → replaced_in b (k ∷ (ks ++ rest)) u ≡ replaced_in b (k ∷ ks) (replaced c rest u)
replaced_in-append b k ks rest c u e =
    let same : statements_replaced b.statements (k ∷ (ks ++ rest)) u ≡ statements_replaced b.statements (k ∷ ks) (replaced c rest u) =
    ap (λ (t : TreeOf Text). statements_in t b.statements)
    (sym (replaced-block [] [] b.statements [] k (ks ++ rest) u)
    ∙ replaced-append (block [] [] b.statements []) (k ∷ ks) rest c u e
    ∙ replaced-block [] [] b.statements [] k ks (replaced c rest u)) in
    λ i. record b { statements = same i }

-- the change of the sequence in which a part is replaced
abbrev pub changed_after : (SequenceOf Text → SequenceOf Text) → ℕ → List ℕ → TreeOf Text → SequenceOf Text → SequenceOf Text
changed_after change k rest u b = change (replaced_in b (k ∷ rest) u)

pub sequence_changed_after : (change : SequenceOf Text → SequenceOf Text) (m : MethodOf Text) (way rest : List ℕ) (k : ℕ) (u : TreeOf Text) (ks : List Known) (ps : List Text) (b : SequenceOf Text) → IsSequenceAt m way ks ps b →
    sequence_changed change way (method_replaced m (way ++ k ∷ rest) u) ≡ sequence_changed (changed_after change k rest u) way m
sequence_changed_after change m way rest k u ks ps b IsBody = refl
sequence_changed_after change m way rest k u ks ps b (IsInBlock {k = j} {path = js} {ts = ts} {ss = ss} {e = e} found) =
    let own : TreeOf Text = block ps ts ss e in
    let inner : TreeOf Text = replaced own (k ∷ rest) u in
    let first : SequenceOf Text = replaced_in m.body (j ∷ js) inner in
    let at : TreeOf Text → SequenceOf Text → Option (TreeOf Text) → MethodOf Text = λ t c o. unwrap_or (option_map (λ (x : TreeOf Text). record m { body = replaced_in c (j ∷ js) (block_changed change x) }) o) (record m { body = c }) in
    ap (λ (c : SequenceOf Text). at own c (part_in c (j ∷ js))) (replaced_in-append m.body j js (k ∷ rest) own u found)
    ∙ ap (λ (o : Option (TreeOf Text)). at own first o) (part_in-replaced_in m.body (j ∷ js) own inner found)
    ∙ ap (λ (c : SequenceOf Text). record m { body = c }) (replaced_in-replaced_in m.body (j ∷ js) inner (block_changed change inner))
    ∙ ap (λ (t : TreeOf Text). method_replaced m (j ∷ js) (block_changed change t)) (replaced-block ps ts ss e k rest u)
    ∙ sym (ap (λ (o : Option (TreeOf Text)). unwrap_or (option_map (λ x. method_replaced m (j ∷ js) (block_changed (changed_after change k rest u) x)) o) m) found)
