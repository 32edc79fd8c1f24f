-- The rows of inventories, blocks and filters: what is spelled is read again, and what is read was spelled so.
use Rattle.std.proofs.Common.{◌≡◌, ℕ, ◌<◌, ◌≤◌, List, [], ◌∷◌, ◌++◌, length, Ok, Err, refl, sym, ap, ◌∙◌, arith, subst}
use Rattle.std.proofs.lemmas.List.{append-nil}
use Rattle.std.specs.List.{AllByRecursion}
use Rattle.cf_bytes.specs.declared.hash.Hash32.{Hash32}
use Rattle.cf_bytes.specs.Cut.{Read, byte_at}
use Rattle.cf_bytes.proofs.Codecs.{IsBytes, Takes, Codec, value_of, byte_codec}
use Rattle.cf_block.specs.declared.fault.BlockFault.{BlockFault}
use Rattle.cf_block.specs.declared.tx.Block.{Block}
use Rattle.cf_block.specs.Header.{IsHash}
use Rattle.cf_block.specs.Tx.{IsBlock, block_spelling}
use Rattle.cf_block.specs.Reading.{block_at}
use Rattle.cf_block.proofs.Again.{block_again}
use Rattle.cf_msg.specs.declared.msg.Inventory.{Inventory}
use Rattle.cf_msg.specs.declared.msg.Cause.{Cause}
use Rattle.cf_msg.specs.declared.msg.Msg.{Msg}
use Rattle.cf_msg.specs.declared.msg.Msg.TheVariants.{GetData, Inv, Block as BlockMessage, GetCfilters, Cfilter, GetCfheaders, Cfheaders, GetCfcheckpt, Cfcheckpt}
use Rattle.cf_msg.specs.Command.{getdata_command, inv_command, block_command, getcfilters_command, cfilter_command, getcfheaders_command, cfheaders_command, getcfcheckpt_command, cfcheckpt_command}
use Rattle.cf_msg.specs.Message.{IsEntry, HasSpelling, counted_list, entry_spelling, hash_spelling, payload_of}
use Rattle.cf_msg.specs.Reading.{of_cut, hash_item_at, entry_at, entries_at, getdata_at, inv_at, of_block, block_message_at, filter_hashes_at, getcfilters_at, cfilter_at, getcfheaders_at, cfheaders_at, getcfcheckpt_at, cfcheckpt_at}
use Rattle.cf_msg.proofs.Codecs.{of_cut_codec, hash_item_codec}
use Rattle.cf_msg.proofs.Fields.{read_1, read_2, read_3, read_4, taken_1, taken_2, taken_3, taken_4, counted_codec}
use Rattle.cf_block.proofs.Taken.{block_taken}
use Rattle.cf_msg.proofs.Rows.{IsRead, u32_cause, counted_cause}

-- fields

type_codec : Codec (λ bytes. of_cut (byte_at bytes)) (λ b. b ∷ []) (λ b. b < 256)
type_codec = of_cut_codec byte_at (λ b. b ∷ []) (λ b. b < 256) byte_codec

entry_again : (e : Inventory) (more : List ℕ) → IsEntry e → entry_at (entry_spelling e ++ more) ≡ Ok (e, more)
unfolding entry_at
entry_again e more h =
    let make : ℕ → Hash32 → Inventory = λ kind hash. record { kind = kind; hash = hash } in
    read_2 u32_cause hash_item_codec make e.kind e.hash more h.kind h.hash

entry_taken : (bytes : List ℕ) (e : Inventory) (rest : List ℕ) → IsBytes bytes → entry_at bytes ≡ Ok (e, rest) → Takes bytes (entry_spelling e) rest × IsEntry e
unfolding entry_at
entry_taken bytes e rest fits h =
    let make : ℕ → Hash32 → Inventory = λ kind hash. record { kind = kind; hash = hash } in
    taken_2 u32_cause hash_item_codec make bytes e rest (λ x after. Takes bytes (entry_spelling x) after × IsEntry x) fits h
    (λ kind hash after t k i. (t, record { kind = k; hash = i }))

entry_codec : Codec entry_at entry_spelling IsEntry
entry_codec = record { again = entry_again; taken = entry_taken }

entries_codec : Codec entries_at (counted_list entry_spelling) (λ xs. (length xs ≤ 50000) × AllByRecursion IsEntry xs)
unfolding entries_at
entries_codec = counted_codec 50000 entry_at entry_spelling IsEntry (omega arith) entry_codec

hashes_codec : Codec filter_hashes_at (counted_list hash_spelling) (λ xs. (length xs ≤ 2000) × AllByRecursion IsHash xs)
unfolding filter_hashes_at
hashes_codec = counted_codec 2000 hash_item_at hash_spelling IsHash (omega arith) hash_item_codec

-- getdata and inv

end_is : {X : Type 0} (read : List ℕ → Read X Cause) (text : List ℕ) (x : X) → read (text ++ []) ≡ Ok (x, []) → read text ≡ Ok (x, [])
end_is read text x h = ap read (sym (append-nil text)) ∙ h

pub getdata_again : (xs : List Inventory) → HasSpelling (GetData xs) → getdata_at (payload_of (GetData xs)) ≡ Ok (GetData xs, [])
unfolding getdata_at payload_of
getdata_again xs h = end_is getdata_at (payload_of (GetData xs)) (GetData xs) (read_1 entries_codec (λ xs. GetData xs) xs [] h)

pub inv_again : (xs : List Inventory) → HasSpelling (Inv xs) → inv_at (payload_of (Inv xs)) ≡ Ok (Inv xs, [])
unfolding inv_at payload_of
inv_again xs h = end_is inv_at (payload_of (Inv xs)) (Inv xs) (read_1 entries_codec (λ xs. Inv xs) xs [] h)

pub getdata_taken : (bytes : List ℕ) (m : Msg) (rest : List ℕ) → IsBytes bytes → getdata_at bytes ≡ Ok (m, rest) → IsRead getdata_command bytes m rest
unfolding getdata_at payload_of
getdata_taken bytes m rest fits e =
    taken_1 entries_codec (λ xs. GetData xs) bytes m rest (λ x after. IsRead getdata_command bytes x after) fits e
    (λ xs after t h. record { command = refl; joined = t.joined; fits = h })

pub inv_taken : (bytes : List ℕ) (m : Msg) (rest : List ℕ) → IsBytes bytes → inv_at bytes ≡ Ok (m, rest) → IsRead inv_command bytes m rest
unfolding inv_at payload_of
inv_taken bytes m rest fits e =
    taken_1 entries_codec (λ xs. Inv xs) bytes m rest (λ x after. IsRead inv_command bytes x after) fits e
    (λ xs after t h. record { command = refl; joined = t.joined; fits = h })

-- block

pub block_message_again : (b : Block) → IsBlock b → block_message_at (payload_of (BlockMessage b)) ≡ Ok (BlockMessage b, [])
unfolding block_message_at payload_of
block_message_again b h = ap (of_block (block_spelling b)) (block_again b h)

block_case : (bytes text : List ℕ) (r : Read Block BlockFault) (m : Msg) (rest : List ℕ) → of_block text r ≡ Ok (m, rest)
    → ((b : Block) (after : List ℕ) → r ≡ Ok (b, after) → IsRead block_command bytes (BlockMessage b) after) → IsRead block_command bytes m rest
block_case bytes text (Ok x) m rest e known =
    let made : Read Msg Cause = Ok (BlockMessage x.0, x.1) in
    let both = value_of (BlockMessage x.0, x.1) (m, rest) made refl e in
    let P : Msg × List ℕ → Type 0 = λ q. IsRead block_command bytes q.0 q.1 in
    subst P both (known x.0 x.1 refl)
block_case bytes text (Err x) m rest e known = cc

pub block_message_taken : (bytes : List ℕ) (m : Msg) (rest : List ℕ) → IsBytes bytes → block_message_at bytes ≡ Ok (m, rest) → IsRead block_command bytes m rest
unfolding block_message_at payload_of
block_message_taken bytes m rest fits e = block_case bytes bytes (block_at bytes) m rest e (λ b after read.
    let t = block_taken bytes b after fits read in
    record { command = refl; joined = t.0 ∙ sym (append-nil (block_spelling b)) ∙ ap (λ k. block_spelling b ++ k) (sym t.1); fits = t.2 })

-- requests and answers about filters

pub getcfilters_again : (filter start : ℕ) (stop : Hash32) → HasSpelling (GetCfilters filter start stop)
    → getcfilters_at (payload_of (GetCfilters filter start stop)) ≡ Ok (GetCfilters filter start stop, [])
unfolding getcfilters_at payload_of
getcfilters_again filter start stop h =
    end_is getcfilters_at (payload_of (GetCfilters filter start stop)) (GetCfilters filter start stop)
    (read_3 type_codec u32_cause hash_item_codec (λ f n s. GetCfilters f n s) filter start stop [] h.0 h.1 h.2)

pub getcfheaders_again : (filter start : ℕ) (stop : Hash32) → HasSpelling (GetCfheaders filter start stop)
    → getcfheaders_at (payload_of (GetCfheaders filter start stop)) ≡ Ok (GetCfheaders filter start stop, [])
unfolding getcfheaders_at payload_of
getcfheaders_again filter start stop h =
    end_is getcfheaders_at (payload_of (GetCfheaders filter start stop)) (GetCfheaders filter start stop)
    (read_3 type_codec u32_cause hash_item_codec (λ f n s. GetCfheaders f n s) filter start stop [] h.0 h.1 h.2)

pub cfilter_again : (filter : ℕ) (block : Hash32) (bytes : List ℕ) → HasSpelling (Cfilter filter block bytes)
    → cfilter_at (payload_of (Cfilter filter block bytes)) ≡ Ok (Cfilter filter block bytes, [])
unfolding cfilter_at payload_of
cfilter_again filter block bytes h =
    end_is cfilter_at (payload_of (Cfilter filter block bytes)) (Cfilter filter block bytes)
    (read_3 type_codec hash_item_codec counted_cause (λ f b t. Cfilter f b t) filter block bytes [] h.0 h.1 h.2)

pub cfheaders_again : (filter : ℕ) (stop previous : Hash32) (hashes : List Hash32) → HasSpelling (Cfheaders filter stop previous hashes)
    → cfheaders_at (payload_of (Cfheaders filter stop previous hashes)) ≡ Ok (Cfheaders filter stop previous hashes, [])
unfolding cfheaders_at payload_of
cfheaders_again filter stop previous hashes h =
    end_is cfheaders_at (payload_of (Cfheaders filter stop previous hashes)) (Cfheaders filter stop previous hashes)
    (read_4 type_codec hash_item_codec hash_item_codec hashes_codec (λ f s p l. Cfheaders f s p l) filter stop previous hashes [] h.0 h.1 h.2 (h.3, h.4))

pub getcfcheckpt_again : (filter : ℕ) (stop : Hash32) → HasSpelling (GetCfcheckpt filter stop) → getcfcheckpt_at (payload_of (GetCfcheckpt filter stop)) ≡ Ok (GetCfcheckpt filter stop, [])
unfolding getcfcheckpt_at payload_of
getcfcheckpt_again filter stop h =
    end_is getcfcheckpt_at (payload_of (GetCfcheckpt filter stop)) (GetCfcheckpt filter stop)
    (read_2 type_codec hash_item_codec (λ f s. GetCfcheckpt f s) filter stop [] h.0 h.1)

pub cfcheckpt_again : (filter : ℕ) (stop : Hash32) (headers : List Hash32) → HasSpelling (Cfcheckpt filter stop headers)
    → cfcheckpt_at (payload_of (Cfcheckpt filter stop headers)) ≡ Ok (Cfcheckpt filter stop headers, [])
unfolding cfcheckpt_at payload_of
cfcheckpt_again filter stop headers h =
    end_is cfcheckpt_at (payload_of (Cfcheckpt filter stop headers)) (Cfcheckpt filter stop headers)
    (read_3 type_codec hash_item_codec hashes_codec (λ f s l. Cfcheckpt f s l) filter stop headers [] h.0 h.1 (h.2, h.3))

pub getcfilters_taken : (bytes : List ℕ) (m : Msg) (rest : List ℕ) → IsBytes bytes → getcfilters_at bytes ≡ Ok (m, rest) → IsRead getcfilters_command bytes m rest
unfolding getcfilters_at payload_of
getcfilters_taken bytes m rest fits e =
    taken_3 type_codec u32_cause hash_item_codec (λ f n s. GetCfilters f n s) bytes m rest (λ x after. IsRead getcfilters_command bytes x after) fits e
    (λ f n s after t hf hn hs. record { command = refl; joined = t.joined; fits = (hf, hn, hs) })

pub getcfheaders_taken : (bytes : List ℕ) (m : Msg) (rest : List ℕ) → IsBytes bytes → getcfheaders_at bytes ≡ Ok (m, rest) → IsRead getcfheaders_command bytes m rest
unfolding getcfheaders_at payload_of
getcfheaders_taken bytes m rest fits e =
    taken_3 type_codec u32_cause hash_item_codec (λ f n s. GetCfheaders f n s) bytes m rest (λ x after. IsRead getcfheaders_command bytes x after) fits e
    (λ f n s after t hf hn hs. record { command = refl; joined = t.joined; fits = (hf, hn, hs) })

pub cfilter_taken : (bytes : List ℕ) (m : Msg) (rest : List ℕ) → IsBytes bytes → cfilter_at bytes ≡ Ok (m, rest) → IsRead cfilter_command bytes m rest
unfolding cfilter_at payload_of
cfilter_taken bytes m rest fits e =
    taken_3 type_codec hash_item_codec counted_cause (λ f b t. Cfilter f b t) bytes m rest (λ x after. IsRead cfilter_command bytes x after) fits e
    (λ f b text after t hf hb ht. record { command = refl; joined = t.joined; fits = (hf, hb, ht) })

pub cfheaders_taken : (bytes : List ℕ) (m : Msg) (rest : List ℕ) → IsBytes bytes → cfheaders_at bytes ≡ Ok (m, rest) → IsRead cfheaders_command bytes m rest
unfolding cfheaders_at payload_of
cfheaders_taken bytes m rest fits e =
    taken_4 type_codec hash_item_codec hash_item_codec hashes_codec (λ f s p l. Cfheaders f s p l) bytes m rest (λ x after. IsRead cfheaders_command bytes x after) fits e
    (λ f s p l after t hf hs hp hl. record { command = refl; joined = t.joined; fits = (hf, hs, hp, hl.0, hl.1) })

pub getcfcheckpt_taken : (bytes : List ℕ) (m : Msg) (rest : List ℕ) → IsBytes bytes → getcfcheckpt_at bytes ≡ Ok (m, rest) → IsRead getcfcheckpt_command bytes m rest
unfolding getcfcheckpt_at payload_of
getcfcheckpt_taken bytes m rest fits e =
    taken_2 type_codec hash_item_codec (λ f s. GetCfcheckpt f s) bytes m rest (λ x after. IsRead getcfcheckpt_command bytes x after) fits e
    (λ f s after t hf hs. record { command = refl; joined = t.joined; fits = (hf, hs) })

pub cfcheckpt_taken : (bytes : List ℕ) (m : Msg) (rest : List ℕ) → IsBytes bytes → cfcheckpt_at bytes ≡ Ok (m, rest) → IsRead cfcheckpt_command bytes m rest
unfolding cfcheckpt_at payload_of
cfcheckpt_taken bytes m rest fits e =
    taken_3 type_codec hash_item_codec hashes_codec (λ f s l. Cfcheckpt f s l) bytes m rest (λ x after. IsRead cfcheckpt_command bytes x after) fits e
    (λ f s l after t hf hs hl. record { command = refl; joined = t.joined; fits = (hf, hs, hl.0, hl.1) })
