-- Inner: The state that the maps of a server hold.
use Rattle.std.specs.Prelude.{◌≡◌, ℕ, Bool, false, ◌&&◌, ◌==◌, List, Option, is_some, unwrap_or}
use Rattle.std.specs.Option.{option_map_or, option_map}
use Rattle.std.specs.BTreeMap as map
use Rattle.affinity.specs.declared.geometry.Geometry.{Geometry}
use Rattle.protocol.specs.declared.messages.Block.{Block}
use Rattle.protocol.specs.Replies.{has_file}
use Rattle.meaning.specs.State.{State, Map, VolumeKey, BlockKey, IsState, blocks_in_stripe}
use Rattle.meaning.specs.KeyOrders.{volume_order, file_order, block_order}
use Rattle.plain.specs.declared.server.Server.{Server}
use Rattle.plain.specs.declared.server.Volume.{Volume}

-- ---- what is known of a volume, where it is made

abbrev pub volume_is_sealed : Option Volume → Bool
volume_is_sealed o = option_map_or (λ volume. volume.sealed) o false

abbrev pub volume_has_file : Option Volume → ℕ → Bool
volume_has_file o f = option_map_or (λ volume. has_file volume.files f) o false

abbrev pub volume_label : Option Volume → Option (List ℕ)
volume_label o = option_map (λ volume. volume.label) o

-- the state in which these look-ups give the volumes and the blocks
abbrev pub state_of : Map VolumeKey Volume → Map BlockKey Block → State
state_of volumes blocks = record {
  made = λ k. is_some (volumes k);
  sealed = λ k. volume_is_sealed (volumes k);
  files = λ k. volume_has_file (volumes (k.0, k.1)) k.2;
  blocks = blocks;
  labels = λ k. volume_label (volumes k);
}

-- the state that the maps hold
abbrev pub server_state : Server → State
server_state server = state_of (map.get volume_order server.volumes) (map.get block_order server.blocks)

-- ---- the blocks of each stripe (a, v, s)

abbrev pub StripeKey : Type 0
StripeKey = ℕ × ℕ × ℕ

abbrev pub is_stripe : ℕ → ℕ → ℕ → StripeKey → Bool
is_stripe a v s k = (a == k.0) && (v == k.1) && (s == k.2)

-- how many blocks the server has counted in a stripe, 0 where it has no entry. `file_order` orders keys of three numbers: a file's, and
-- here a stripe's.
abbrev pub noted : Server → StripeKey → ℕ
noted server k = unwrap_or (map.get file_order server.block_counts k) 0

-- The server has counted the blocks of each stripe right.
abbrev pub HasRightCounts : Geometry → Server → Type 0
HasRightCounts g server = (k : StripeKey) → noted server k ≡ blocks_in_stripe g (server_state server) k.0 k.1 k.2

-- The server's state is a possible one (`IsState`), and its counts are right.
pub record IsConsistent (g : Geometry) (server : Server) : Type 0 where
  pub state : IsState g (server_state server)
  pub counted : HasRightCounts g server
