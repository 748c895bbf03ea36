pub mod RisingLaws
