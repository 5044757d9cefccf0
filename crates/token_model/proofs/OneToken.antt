-- At a place of a text at most one token begins.
use Rattle.std.proofs.Common.{◌≡◌, ℕ, ◌+◌, ◌⊎◌, inl, inr, List, get_or, sym, ◌∙◌, subst}
use Rattle.token_model.specs.Tokens.{IsToken, NoToken}
use Rattle.token_model.specs.declared.kind.Dialect.{Dialect}
use Rattle.token_model.specs.declared.kind.TokenKind.{TokenKind}
use Rattle.token_model.specs.declared.kind.TokenKind.TheVariants.{Identifier, Keyword}
use Rattle.token_model.proofs.Leads.{lead, normal, lead_of_token, same_normal, word_kind}
use Rattle.token_model.proofs.Ends.{identifier_or_keyword, IsToken-end_same}

-- two words at one place are of one kind
words_same : (d : Dialect) (k m : TokenKind) (t : List ℕ) (i j n : ℕ) → IsToken d k t i j → IsToken d m t i n → (k ≡ Identifier) ⊎ (k ≡ Keyword) → (m ≡ Identifier) ⊎ (m ≡ Keyword) → k ≡ m
words_same d k m t i j n h g (inl a) (inl b) = a ∙ sym b
words_same d k m t i j n h g (inl a) (inr b) = absurd (identifier_or_keyword t i j n (subst (λ x. IsToken d x t i j) a h) (subst (λ x. IsToken d x t i n) b g))
words_same d k m t i j n h g (inr a) (inl b) = absurd (identifier_or_keyword t i n j (subst (λ x. IsToken d x t i n) b g) (subst (λ x. IsToken d x t i j) a h))
words_same d k m t i j n h g (inr a) (inr b) = a ∙ sym b

-- tokens that begin at one place are of one kind
pub IsToken-kind_same : (d : Dialect) (k m : TokenKind) (t : List ℕ) (i j n : ℕ) → IsToken d k t i j → IsToken d m t i n → k ≡ m
IsToken-kind_same d k m t i j n h g = elim (same_normal k m (sym (lead_of_token d k t i j h) ∙ lead_of_token d m t i n g)) [
  | inl e ↦ e
  | inr (a, b) ↦ words_same d k m t i j n h g (word_kind k a) (word_kind m b)
]

-- at a place at most one token begins
pub IsToken-same : (d : Dialect) (k m : TokenKind) (t : List ℕ) (i j n : ℕ) → IsToken d k t i j → IsToken d m t i n → (k ≡ m) × (j ≡ n)
IsToken-same d k m t i j n h g =
    let kind = IsToken-kind_same d k m t i j n h g in
    (kind, IsToken-end_same d m t i j n (subst (λ x. IsToken d x t i j) kind h) g)

-- where the lead is of a kind of which no token begins here, none begins
pub NoToken-lead : (d : Dialect) (k : TokenKind) (t : List ℕ) (i : ℕ) → lead (get_or t i 0) (get_or t (i + 1) 0) ≡ k → normal k ≡ k → ((k ≡ Identifier) → ⊥) → ((j : ℕ) → ¬ IsToken d k t i j) → NoToken d t i
NoToken-lead d k t i is own word none m j h = elim (same_normal k m (own ∙ sym is ∙ lead_of_token d m t i j h)) [
  | inl e ↦ none j (subst (λ x. IsToken d x t i j) (sym e) h)
  | inr (a, b) ↦ word (sym own ∙ a)
]
