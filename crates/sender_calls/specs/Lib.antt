pub mod SenderCalls
