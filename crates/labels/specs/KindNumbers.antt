-- The numbers of the kinds of labels.
use Rattle.std.specs.Prelude.{◌≡◌, ℕ, ◌≢◌, Result, MatchResult}
use Rattle.labels.specs.declared.kind.Kind.{Kind}
use Rattle.labels.specs.declared.kind.Kind.TheVariants.{Frames, Stamps}
use Rattle.labels.specs.declared.kind.UnknownKind.{UnknownKind}

abbrev pub kind_row : Kind → ℕ
kind_row Frames = 1
kind_row Stamps = 2

-- r is the kind of number n, or tells that no kind has it
abbrev pub Decodes : ℕ → Result Kind UnknownKind → Type 0
Decodes n r = MatchResult r (λ k. kind_row k ≡ n) (λ e. (e.0 ≡ n) × ((k : Kind) → kind_row k ≢ n))
