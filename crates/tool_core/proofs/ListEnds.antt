-- How a listing ends, before its closing line.
use Rattle.std.proofs.Common.{◌≡◌, ℕ, ◌≤◌, List, ◌++◌, length, refl, sym, ◌∙◌, ap, subst, inl, inr, append-nil, Option}
use Rattle.std.specs.Prelude.{unwrap_or}
use Rattle.geometry.specs.declared.geometry.Geometry.{Geometry}
use Rattle.nor_core.specs.declared.state.NorState.{Ghosts as NorOf}
use Rattle.nor_core.specs.Device.{OnlyReads}
use Rattle.image_model.specs.Tables.{damaged_of}
use Rattle.image_model.specs.Kinds.{spoiled_blocks}
use Rattle.vol_mount.specs.declared.lent.MountErr.{MountErr}
use Rattle.vol_mount.specs.declared.lent.MountErr.TheVariants.{NotAFs as MountNotAFs, DeviceFault as MountFault}
use Rattle.vol_mount.specs.Mounts.{CountsSpoiled}
use Rattle.image_tool.specs.Lists.{list_of}
use Rattle.image_tool.specs.Saying.{OnlySays, SaysFront}
use Rattle.image_tool.proofs.Speaking.{says_none, front_none, says_after, front_after, says_same}
use Rattle.tool_parts.specs.declared.ending.Ending.{Ending}
use Rattle.tool_parts.specs.declared.ending.Ending.TheVariants.{BoardFault}
use Rattle.tool_parts.specs.Mounting.{mount_ends}
use Rattle.tool_core.specs.Listing.{listed_text, ListsTo}
use Rattle.tool_parts.specs.Refusals.{said_ending}
use Rattle.tool_parts.proofs.Refusals.{mount_two, mount_few}

-- a volume that wasn't mounted
pub not_mounted : {D : Type 0} {nor : NorOf D} (g : Geometry) (why : MountErr) {old new : D} → OnlyReads nor old new → (nor.tells old → CountsSpoiled g (nor.bytes old) why) → ListsTo nor g old new (mount_ends why)
not_mounted {D} {nor} g (MountNotAFs spoiled) {old} {new} reads cause = record {
  says = says_none _ reads;
  speaks = λ tells. let why = cause tells in rw (mount_two g (nor.bytes old) spoiled why.0 why.1) (inr (refl, reads.said ∙ sym (append-nil (nor.said old))));
}
not_mounted g MountFault reads cause = record { says = says_none _ reads; speaks = λ tells. inl (refl, front_none _ reads) }

module _ {D : Type 0} {nor : NorOf D} {g : Geometry} where
  -- the list of the first image, which mounts
  same_list : {old mid : D} (h : Geometry) → h ≡ g → OnlyReads nor old mid → spoiled_blocks g (nor.bytes old) ≤ 1 → list_of h (nor.bytes mid) ≡ listed_text g (nor.bytes old)
  same_list {old} {mid} h same reads few = rw (mount_few g (nor.bytes old) few) (ap (λ (k : Geometry). list_of k (nor.bytes mid)) same ∙ ap (list_of g) reads.bytes)

  same_count : {old mid : D} (h : Geometry) → h ≡ g → OnlyReads nor old mid → length (damaged_of h (nor.bytes mid)) ≡ length (damaged_of g (nor.bytes old))
  same_count {old} {mid} h same reads = ap (λ (k : Geometry). length (damaged_of k (nor.bytes mid))) same ∙ ap (λ (l : List ℕ). length (damaged_of g l)) reads.bytes

  list_says : {old mid new : D} (h : Geometry) → h ≡ g → OnlyReads nor old mid → (nor.tells old → spoiled_blocks g (nor.bytes old) ≤ 1) → OnlySays nor mid new (list_of h (nor.bytes mid)) → OnlySays nor old new (listed_text g (nor.bytes old))
  list_says h same reads few says = says_after reads (says_same _ _ (λ tells. same_list h same reads (few (reads.told_before tells))) says)

  -- a list that was said
  pub list_done : {old mid new : D} (h : Geometry) (count : ℕ) (result : Ending) → h ≡ g → OnlyReads nor old mid → (nor.tells old → spoiled_blocks g (nor.bytes old) ≤ 1) → OnlySays nor mid new (list_of h (nor.bytes mid)) →
      (nor.tells mid → nor.said new ≡ nor.said mid ++ list_of h (nor.bytes mid)) → (nor.tells mid → count ≡ length (damaged_of h (nor.bytes mid))) → result ≡ said_ending count → ListsTo nor g old new result
  list_done {old} {mid} {new} h count result same reads few says said counts is = record {
    says = list_says h same reads few says;
    speaks = λ tells. inr (
      is ∙ ap said_ending (counts (reads.told tells) ∙ same_count h same reads) ∙ sym (ap (λ (o : Option Ending). unwrap_or o (said_ending (length (damaged_of g (nor.bytes old))))) (mount_few g (nor.bytes old) (few tells))),
      said (reads.told tells) ∙ ap (λ (l : List ℕ). l ++ list_of h (nor.bytes mid)) reads.said ∙ ap (λ (l : List ℕ). nor.said old ++ l) (same_list h same reads (few tells)),
    );
  }

  -- the board failed in it
  pub list_broken : {old mid new : D} (h : Geometry) → h ≡ g → OnlyReads nor old mid → (nor.tells old → spoiled_blocks g (nor.bytes old) ≤ 1) → OnlySays nor mid new (list_of h (nor.bytes mid)) → (nor.tells mid → SaysFront nor mid new (list_of h (nor.bytes mid))) → ListsTo nor g old new BoardFault
  list_broken {old} {mid} {new} h same reads few says front = record {
    says = list_says h same reads few says;
    speaks = λ tells. inl (refl, front_after reads (subst (λ (l : List ℕ). SaysFront nor mid new l) (same_list h same reads (few tells)) (front (reads.told tells))));
  }
