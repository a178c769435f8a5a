-- The links of a plan where they stand beside its outline, before any is read.
-- Assumes nothing.
use Rattle.std.specs.Prelude.{ℕ, List, replicate}
use Rattle.plan.specs.Limits.{most_links}
use Rattle.plan.specs.declared.Links.{Links}

-- no link yet
unfoldable pub no_links : List ℕ
no_links = replicate most_links 0

-- neither its first booking nor its second
abbrev pub empty_links : Links
empty_links = record { from = no_links; to = no_links }
