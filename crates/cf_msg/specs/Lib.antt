pub mod Command
pub mod Message
pub mod Reading
pub use Rattle.cf_msg.specs.Message.{command_of, frame_of, HasSpelling, is_version, IsEntry, IsWithinLimits, payload_of}
pub use Rattle.cf_msg.specs.Reading.{Answers, block_message_at, cfcheckpt_at, cfheaders_at, cfilter_at, entries_at, entry_at, fields_at, filter_hashes_at, getcfcheckpt_at, getcfheaders_at, getcfilters_at, getdata_at, getheaders_at, hash_item_at, header_item_at, headers_at, inv_at, message_of, of_cut, ping_at, pong_at, version_at, whole_at}
