-- A block by the counts of its entries.
use Rattle.std.specs.Prelude.{◌≡◌, ℕ, zero, suc, ◌+◌, ◌<◌, cond, nat_lt}

-- how many entries of a block have a live index page, have a live data page, are deleted and are free
pub record Counts : Type 0 where
  pub index : ℕ
  pub pages : ℕ
  pub deleted : ℕ
  pub free : ℕ

-- These are the counts of a block of e entries, which never holds live pages of both kinds.
pub record IsBlock (e : ℕ) (c : Counts) : Type 0 where
  pub whole : c.index + c.pages + c.deleted + c.free ≡ e
  pub apart : 0 < c.pages → c.index ≡ 0

-- what the free entries of a block are for: either kind of pages, index pages alone or data pages alone
pub data Kind : Type 0 where
  unused : Kind
  for_index : Kind
  for_data : Kind

-- A block with a live data page is for data pages, another one in use is for index pages.
unfoldable pub kind_of : Counts → Kind
kind_of c = cond (nat_lt 0 c.pages) for_data (cond (nat_lt 0 (c.index + c.deleted)) for_index unused)

-- a number where two kinds are the same, else 0
abbrev pub if_same : Kind → Kind → ℕ → ℕ
if_same unused unused n = n
if_same for_index for_index n = n
if_same for_data for_data n = n
if_same k j n = 0

-- a number where the block is of the kind, else 0
abbrev pub if_kind : Kind → Counts → ℕ → ℕ
if_kind k c n = if_same k (kind_of c) n

-- a number where another one isn't 0, else 0
abbrev pub if_any : ℕ → ℕ → ℕ
if_any zero n = 0
if_any (suc k) n = n
