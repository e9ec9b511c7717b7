-- What a session stands for as a core knows it, from what it stands for by itself.
use Rattle.std.proofs.Common.{ℕ, Result, Ok, Err}
use Rattle.std.specs.Prelude.{IfOk, OnOk}
use Rattle.vpn_base.specs.declared.address.Addr.{Addr}
use Rattle.vpn_base.specs.declared.errors.NoMemory.{NoMemory}
use Rattle.vpn_links.specs.Actions.{Contents}
use Rattle.peer_table.specs.Outboxes.{LeavesUnless}
use Rattle.peer_table.specs.Peer.{Outcome, Peer}

-- a call leaves what stands for its peer in one sense standing for it in another
pub leaves_with : {S T A B : Type 0} (r : Result B NoMemory) (means : S → Peer → Type 0) (meant : T → Peer → Type 0) (s : S) (t : T) (before after : Contents) (to : Addr) (p : Peer) (o : Outcome A)
    → OnOk r (means s o.peer → meant t o.peer) → (means s p → meant t p) → LeavesUnless r means s before after to p o → LeavesUnless r meant t before after to p o
leaves_with (Ok b) means meant s t before after to p o done kept leaves = record { peer = done leaves.peer; outbox = leaves.outbox }
leaves_with (Err e) means meant s t before after to p o done kept leaves = (kept leaves.0, leaves.1)

pub on_ok_always : {A E : Type 0} (r : Result A E) (X : Type 0) → X → OnOk r X
on_ok_always (Ok a) X x = x
on_ok_always (Err e) X x = tt

pub on_ok_from : {A E : Type 0} (r : Result A E) (X : ℕ → Type 0) (Y : Type 0) → ((n : ℕ) → IfOk r (λ _. X n)) → (((n : ℕ) → X n) → Y) → OnOk r Y
on_ok_from (Ok a) X Y all into = into all
on_ok_from (Err e) X Y all into = tt

pub if_ok_with : {A E : Type 0} (r : Result A E) (P : Type 0) (X : A → Type 0) → P → IfOk r (λ a. P → X a) → IfOk r X
if_ok_with (Ok a) P X p all = all p
if_ok_with (Err e) P X p all = tt
