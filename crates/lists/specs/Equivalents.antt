-- The equivalent networks, made from those that an accept gives.
use Rattle.std.specs.Prelude.{cond, List, [], ◌∷◌, ◌++◌, Some, None, Option}
use Rattle.vocabulary.specs.declared.values.Plmn.{Plmn}
use Rattle.vocabulary.specs.Same.{same_plmn}
use Rattle.lists.specs.Lists.{member}

-- the equivalent networks, by which contracts see them
pub record Equivalents : Type 0 where
  pub networks : List Plmn

-- a network follows the others, unless it is there
abbrev pub followed_by : List Plmn → Plmn → List Plmn
followed_by kept p = cond (member same_plmn p kept) kept (kept ++ p ∷ [])

-- an entry follows the others, unless it is empty, forbidden or there
abbrev pub kept_one : List Plmn → List Plmn → Option Plmn → List Plmn
kept_one forbidden kept None = kept
kept_one forbidden kept (Some p) = cond (member same_plmn p forbidden) kept (followed_by kept p)

-- the entries that are kept, in their order
abbrev pub kept_entries : List Plmn → List Plmn → List (Option Plmn) → List Plmn
kept_entries forbidden kept [] = kept
kept_entries forbidden kept (entry ∷ more) = kept_entries forbidden (kept_one forbidden kept entry) more

-- the accepted network follows, unless it is there
abbrev pub equivalents_from : List (Option Plmn) → List Plmn → Plmn → List Plmn
equivalents_from entries forbidden accepted = followed_by (kept_entries forbidden [] entries) accepted

-- the entries that are there
abbrev pub given_entries : List (Option Plmn) → List Plmn
given_entries [] = []
given_entries (None ∷ more) = given_entries more
given_entries (Some p ∷ more) = p ∷ given_entries more
