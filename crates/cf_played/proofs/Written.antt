-- Which messages can be written: those of a good chain's machine, and others about filters.
use Rattle.std.proofs.Common.{ℕ, suc, pos, ◌/◌, ◌≤◌, Bool, List, [], ◌∷◌, length, map, take, drop, refl, arith, lit<, lit≤, get_or}
use Rattle.std.specs.List.{AllByRecursion}
use Rattle.cf_bytes.specs.declared.hash.Hash32.{Hash32}
use Rattle.cf_block.specs.declared.tx.Block.{Block}
use Rattle.cf_block.specs.Genesis.{first_block}
use Rattle.cf_block.specs.Header.{IsHash, IsHeader}
use Rattle.cf_block.specs.Tx.{IsBlock}
use Rattle.cf_chain.specs.Filters.{Filtered, first_filtered, filters_of, filter_at}
use Rattle.cf_chain.specs.Good.{IsGoodChain}
use Rattle.cf_chain.specs.Heights.{all_blocks}
use Rattle.cf_chain.specs.Serve.{cfilter_of, filters_between, header_before, header_or_zeros, thousands, version_reply}
use Rattle.cf_filter.specs.Filter.{filter_hash_of}
use Rattle.cf_msg.specs.declared.msg.Msg.{Msg}
use Rattle.cf_msg.specs.declared.msg.Msg.TheVariants.{Verack, Pong, Headers, Block as BlockMessage, Cfilter, Cfheaders, Cfcheckpt}
use Rattle.cf_msg.specs.Message.{HasSpelling}
use Rattle.cf_msg.proofs.Sizes.{IsSmall, payload_fits}
use Rattle.cf_peer.specs.Acts.{IsSendable}
use Rattle.cf_server.specs.declared.reply.Reply.{Reply}
use Rattle.cf_server.specs.declared.reply.Reply.TheVariants.{OwnVersion, OwnVerack, PongOf, HeadersOf, BlockAt, CfilterAt, CfheadersOf, CfcheckptOf}
use Rattle.cf_server.specs.Replies.{IsReplyOf, message_of}
use Rattle.cf_server.proofs.Fitting.{IsFit, before_fits, block_fits, cfcheckpt_small, cfheaders_small, checkpoints_fit, filter_fits, hash_fits, hashes_fit, headers_small}
use Rattle.cf_server.proofs.Lists.{all-drop, all-map, all-take}
use Rattle.cf_played.specs.Frames.{IsInRange, IsOther, machine}

pub written : (m : Msg) → HasSpelling m → IsSmall m → IsSendable m
written m h small = record { spelled = h; short = payload_fits m h small }

-- ---- the machine's

pub version_fits : (blocks : List Block) → IsGoodChain blocks → IsSendable (version_reply (pos 0) 0 blocks)
version_fits blocks good = written (version_reply (pos 0) 0 blocks) (
  record { sfits = omega arith },
  lit< tt,
  record { sfits = omega arith },
  record { services = lit< tt; ip = refl; port = lit< tt },
  record { services = lit< tt; ip = refl; port = lit< tt },
  lit< tt,
  lit≤ tt,
  record { sfits = omega (arith, good.height) },
  lit< tt,
) (lit≤ tt)

-- each of a list at its own place
pub all_places : {X : Type 0} (P : X → Type 0) (xs : List X) (d : X) → ((i : ℕ) → P (get_or xs i d)) → AllByRecursion P xs
all_places P [] d at = tt
all_places P (x ∷ xs) d at = (at 0, all_places P xs d (λ i. at (suc i)))

heads_fit : (blocks : List Block) (start count : ℕ) → IsGoodChain blocks → AllByRecursion IsHeader (take count (drop start (map (λ b. b.header) (all_blocks blocks))))
heads_fit blocks start count good =
    let each : AllByRecursion IsBlock (all_blocks blocks) = all_places IsBlock (all_blocks blocks) first_block (λ i. block_fits blocks i good) in
    all-take IsHeader (drop start (map (λ (b : Block). b.header) (all_blocks blocks))) count
    (all-drop IsHeader (map (λ (b : Block). b.header) (all_blocks blocks)) start (all-map IsBlock IsHeader (λ b. b.header) (all_blocks blocks) (λ b fits. fits.header) each))

pub cfilter_fits : (f : Filtered) → IsFit f → IsSendable (cfilter_of f)
cfilter_fits f fit = written (cfilter_of f) (lit< tt, fit.0, within_it fit.1) fit.1 where
  within_it : length f.filter ≤ 3999900 → length f.filter ≤ 33554432
  within_it few = omega (arith, few)

-- each reply of a good chain's machine can be written
pub reply_fits : (seen : Bool) (blocks : List Block) (reply : Reply) → IsGoodChain blocks → IsReplyOf blocks reply → IsInRange reply → IsSendable (message_of (machine seen) blocks reply)
reply_fits seen blocks OwnVersion good is range = version_fits blocks good
reply_fits seen blocks OwnVerack good is range = written Verack tt tt
reply_fits seen blocks (PongOf number) good is range = written (Pong number) range tt
reply_fits seen blocks (HeadersOf start count) good is range =
    written (Headers (take count (drop start (map (λ (b : Block). b.header) (all_blocks blocks))))) ((headers_small blocks start count good is.0).0, heads_fit blocks start count good) tt
reply_fits seen blocks (BlockAt height) good is range = written (BlockMessage (get_or (all_blocks blocks) height first_block)) (block_fits blocks height good) tt
reply_fits seen blocks (CfilterAt height) good is range = cfilter_fits (get_or (filters_of blocks) height first_filtered) (filter_fits blocks height good)
reply_fits seen blocks (CfheadersOf start stop_height stop) good is range =
    let hashes : List Hash32 = map (λ (f : Filtered). record { 0 = filter_hash_of f.filter }) (filters_between start stop_height blocks) in
    written (Cfheaders 0 stop (header_before start blocks) hashes) (
      lit< tt,
      hash_fits stop blocks stop_height is.2,
      before_fits blocks start good,
      (cfheaders_small blocks start stop_height stop (header_before start blocks) hashes good is.2 is.1 refl refl).0,
      hashes_fit (filters_between start stop_height blocks),
    ) tt
reply_fits seen blocks (CfcheckptOf stop_height stop) good is range =
    let headers : List Hash32 = map (λ (h : ℕ). header_or_zeros (filter_at blocks h)) (thousands (stop_height / 1000)) in
    written (Cfcheckpt 0 stop headers)
    (lit< tt, hash_fits stop blocks stop_height is, (cfcheckpt_small blocks stop_height stop headers good is refl).0, checkpoints_fit blocks (thousands (stop_height / 1000)) good) tt

-- ---- others

pub other_filter : (block : Hash32) (bytes : List ℕ) → IsHash block → length bytes ≤ 3999900 → IsOther (Cfilter 0 block bytes)
other_filter block bytes hash few = record { fit = written (Cfilter 0 block bytes) (lit< tt, hash, omega (arith, few)) few; filtering = refl }

pub other_hashes : (stop previous : Hash32) (hashes : List Hash32) → IsHash stop → IsHash previous → length hashes ≤ 2000 → AllByRecursion IsHash hashes → IsOther (Cfheaders 0 stop previous hashes)
other_hashes stop previous hashes a b few each = record { fit = written (Cfheaders 0 stop previous hashes) (lit< tt, a, b, few, each) tt; filtering = refl }

pub other_checkpoints : (stop : Hash32) (headers : List Hash32) → IsHash stop → length headers ≤ 2000 → AllByRecursion IsHash headers → IsOther (Cfcheckpt 0 stop headers)
other_checkpoints stop headers a few each = record { fit = written (Cfcheckpt 0 stop headers) (lit< tt, a, few, each) tt; filtering = refl }
